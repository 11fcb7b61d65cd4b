-- A node that is added: its number stands for what it is made of, and all older numbers and marks stay.
use Rattle.std.proofs.Common.{◌≡◌, ℕ, zero, suc, ◌≤◌, ◌≢◌, ◌⊎◌, List, ◌∷◌, length, Some, None, Option as Answer, sym, refl, ap, ◌∙◌, subst, inl, inr, le_of_suc-le-suc, eq-or-lt_of_le, arith, eq-eqb}
use mathlib.Core.Option.{Option, some, none}
use Rattle.store.specs.Builds as builds
use Rattle.store.specs.State.{Contents, Keeps, Grows}
use Rattle.nodes.specs.declared.table.Nodes.{Nodes}
use Rattle.nodes.specs.declared.node.Node.{Node}
use Rattle.nodes.specs.Table.{rows, Puts}
use Rattle.nodes.specs.Items.{Item, contents, tree_size}
use Rattle.nodes.specs.Meaning.{made, mean, items, held, state_in, state_of, IsMade}
use Rattle.nodes.proofs.Made.{Made, to_made, made_of}
use Rattle.nodes.proofs.Readings.{holds-item}
use Rattle.nodes.proofs.Rows.{length-rows}
use Rattle.nodes.proofs.Numbers.{KeptAt, KeepsAt, keeps_at, items_new, items_old, items_kept, newest, mean_some, made_kept, first_below, second_below}

none_or_some : {A : Type 0} (o : Option A) → (o ≡ none) ⊎ ((a : A) × (o ≡ some a))
none_or_some none = inl refl
none_or_some (some a) = inr (a, refl)

mean_of : {c : Contents} (d : Node) {i : Item} → Made c d.kind d.x d.y i → d.size ≡ tree_size i → mean c (Some d) ≡ some i
mean_of d {i} m e = rw (made_of m, eq-eqb d.size (tree_size i) e)

-- a number other than the newest stands for what it stood for before
older : (o : Answer Node) (ds : List (Answer Node)) (p : ℕ) → p ≢ suc (length ds)
    → KeepsAt (contents (items (o ∷ ds))) (contents (items ds)) p
older o ds p ne = keeps_at (items (o ∷ ds)) (items ds) p (λ j e. sym (items_old o ds p ne) ∙ e)

-- what the newest node is made of was there before it
before : (d : Node) (ds : List (Answer Node)) {i : Item} → Made (contents (items (Some d ∷ ds))) d.kind d.x d.y i
    → Made (contents (items ds)) d.kind d.x d.y i
before d ds m =
    elim (none_or_some (mean (contents (items ds)) (Some d))) [
      | inl e ↦
          let at_new : (j : Item) → items (Some d ∷ ds) (suc (length ds)) ≡ some j → ◌≡◌ {A = ℕ} 0 1 =
          λ j h. let z : none ≡ some j = sym e ∙ sym (items_new (Some d) ds) ∙ h in cc in
          let all-kept : (p : ℕ) → KeptAt (items (Some d ∷ ds)) (items ds) p =
          λ p j h. elim (newest ds p) [
            | inl t ↦ let z = at_new j (ap (items (Some d ∷ ds)) (sym t) ∙ h) in absurd (omega arith)
            | inr f ↦ sym (items_old (Some d) ds p f) ∙ h
          ] in
          let kept : (p : ℕ) → KeepsAt (contents (items (Some d ∷ ds))) (contents (items ds)) p =
          λ p. keeps_at (items (Some d ∷ ds)) (items ds) p (all-kept p) in
          made_kept (λ _. kept _) (kept _) m
      | inr a ↦
          let old = (mean_some (contents (items ds)) d a.0 a.1).0 in
          made_kept (λ is. older (Some d) ds d.x (omega (arith, first_below ds old is)))
          (older (Some d) ds d.y (omega (arith, second_below ds old))) m
    ]

-- the new number stands for what its node is made of, if the node has the right size
pub built : (d : Node) (ds : List (Answer Node)) → ((i : Item) → Made (contents (items ds)) d.kind d.x d.y i → d.size ≡ tree_size i)
    → IsMade d.kind d.x d.y (contents (items (Some d ∷ ds))) (suc (length ds))
built d ds size i e =
    let m = before d ds (to_made (contents (items (Some d ∷ ds))) d.kind d.x d.y e) in
    holds-item (items (Some d ∷ ds)) (suc (length ds)) i (items_new (Some d) ds ∙ mean_of d m (size i m))

-- tables with the same nodes have the same older nodes
pub rows_back : (ws vs : List ℕ) (n m : ℕ) → rows ws n ≡ rows vs n → m ≤ n → rows ws m ≡ rows vs m
rows_back ws vs zero m e h = let z : m ≡ 0 = omega arith in rw z
rows_back ws vs (suc n) m e h =
    elim (eq-or-lt_of_le h) [
      | inl t ↦ rw t e
      | inr f ↦ let tail : rows ws n ≡ rows vs n = cc in rows_back ws vs n m tail (le_of_suc-le-suc f)
    ]

pub keeps : (o : Answer Node) (ds : List (Answer Node)) → Keeps (contents (items ds)) (contents (items (o ∷ ds)))
keeps o ds =
    let kept : (p : ℕ) → KeepsAt (contents (items ds)) (contents (items (o ∷ ds))) p =
    λ p. keeps_at (items ds) (items (o ∷ ds)) p (items_kept o ds p) in
    record {
      word = λ n x e. (kept n).word e;
      typ = λ n x e. (kept n).typ e;
      types = λ n x e. (kept n).types e;
      term = λ n x e. (kept n).term e;
      terms = λ n x e. (kept n).terms e;
    }

pub grown : (ws vs : List ℕ) (n : ℕ) (o : Answer Node) → rows vs (suc n) ≡ o ∷ rows ws n → length vs ≡ length ws
    → Grows 1 (state_in ws n) (state_in vs (suc n))
grown ws vs n o e l =
    record {
      keeps = subst (λ ds. Keeps (held ws n) (contents (items ds))) (sym e) (keeps o (rows ws n));
      cost = rw l (omega arith);
      count = omega arith;
      marks = λ m h. let tail : rows vs n ≡ rows ws n = cc in ap (λ ds. contents (items ds)) (rows_back vs ws n m tail h);
      lefts = λ m h. rw l;
    }

-- a node added to the first n: what the caller may build on
pub added : (ws vs : List ℕ) (n m k : ℕ) (d : Node) → k ≡ suc n → m ≡ suc n → rows vs m ≡ Some d ∷ rows ws n → length vs ≡ length ws
    → ((i : Item) → made (held ws n) d.kind d.x d.y ≡ some i → d.size ≡ tree_size i)
    → builds.Made 1 (state_in ws n) (state_in vs m) (IsMade d.kind d.x d.y) k
added ws vs n m k d number used e l size =
    let rows_are : rows vs (suc n) ≡ Some d ∷ rows ws n = ap (rows vs) (sym used) ∙ e in
    let stands : IsMade d.kind d.x d.y (contents (items (Some d ∷ rows ws n))) (suc n) =
    subst (λ j. IsMade d.kind d.x d.y (contents (items (Some d ∷ rows ws n))) (suc j)) (length-rows ws n)
    (built d (rows ws n) (λ i h. size i (made_of h))) in
    record {
      grows = subst (λ j. Grows 1 (state_in ws n) (state_in vs j)) (sym used) (grown ws vs n (Some d) rows_are l);
      stands =
          subst (λ ds. IsMade d.kind d.x d.y (contents (items ds)) k) (sym e)
          (subst (λ j. IsMade d.kind d.x d.y (contents (items (Some d ∷ rows ws n))) j) (sym number) stands);
    }

-- a call that writes a node of the right size builds it
pub puts : (s t : Nodes) (d : Node) (r : Answer ℕ) → Puts s t d r
    → ((i : Item) → made (state_of s).contents d.kind d.x d.y ≡ some i → d.size ≡ tree_size i)
    → builds.Builds 1 (state_of s) (state_of t) (IsMade d.kind d.x d.y) r
puts s t d None h size = record { short = omega (arith, h.room); same = cc (h.same.used, h.same.words) }
puts s t d (Some k) h size =
    added s.words.now t.words.now s.used t.used k d h.number h.used h.rows h.length size
