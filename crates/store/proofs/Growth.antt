-- Stores that grow: one step after another, and back to a mark.
use Rattle.std.proofs.Common.{◌≡◌, ℕ, ◌+◌, ◌≤◌, refl, ◌∙◌, arith}
use Rattle.store.specs.State.{Contents, Keeps, State, Grows, Stays, back}

pub keeps_same : {c : Contents} → Keeps c c
keeps_same = record { word = λ n x e. e; typ = λ n x e. e; types = λ n x e. e; term = λ n x e. e; terms = λ n x e. e }

pub keeps_on : {c d e : Contents} → Keeps c d → Keeps d e → Keeps c e
keeps_on h k = record {
  word = λ n x p. k.word n x (h.word n x p);
  typ = λ n x p. k.typ n x (h.typ n x p);
  types = λ n x p. k.types n x (h.types n x p);
  term = λ n x p. k.term n x (h.term n x p);
  terms = λ n x p. k.terms n x (h.terms n x p);
}

pub grows_same : {s : State} → Grows 0 s s
grows_same = record { keeps = keeps_same; cost = omega arith; count = omega arith; marks = λ m h. refl; lefts = λ m h. refl }

pub grows_on : {m n : ℕ} {s t u : State} → Grows m s t → Grows n t u → Grows (m + n) s u
grows_on {m} {n} {s} {t} {u} h k =
    let hc = h.cost in
    let kc = k.cost in
    let hn = h.count in
    let kn = k.count in
    record {
      keeps = keeps_on h.keeps k.keeps;
      cost = omega arith;
      count = omega arith;
      marks = λ i l. k.marks i (omega arith) ∙ h.marks i l;
      lefts = λ i l. k.lefts i (omega arith) ∙ h.lefts i l;
    }

-- more may be spent
pub grows-more : {m n : ℕ} {s t : State} → m ≤ n → Grows m s t → Grows n s t
grows-more {m} {n} {s} {t} l h =
    let hc = h.cost in
    record { keeps = h.keeps; cost = omega arith; count = h.count; marks = h.marks; lefts = h.lefts }

pub stays_same : {s : State} → Stays s s
stays_same = record { grows = grows_same; left = refl; count = refl }

pub stays_on : {s t u : State} → Stays s t → Stays t u → Stays s u
stays_on h k = record { grows = grows_on h.grows k.grows; left = k.left ∙ h.left; count = k.count ∙ h.count }

-- a mark m of s, released at t: all is as it was in s
pub released : {m n : ℕ} {s t : State} → m ≡ s.count → s.at m ≡ s.contents → s.left_at m ≡ s.left → Grows n s t
    → Stays s (back m t)
released {m} {n} {s} {t} e c l g =
    let le : m ≤ s.count = omega arith in
    let same : (back m t).contents ≡ s.contents = g.marks m le ∙ c in
    let left : (back m t).left ≡ s.left = g.lefts m le ∙ l in
    record {
      grows = record { keeps = rw same keeps_same; cost = omega arith; count = omega arith; marks = g.marks; lefts = g.lefts };
      left = left;
      count = e;
    }
