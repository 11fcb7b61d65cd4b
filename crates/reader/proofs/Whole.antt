-- From the bytes of a text one by one to the text.
use Rattle.std.proofs.Common.{◌≡◌, ℕ, ◌+◌, ◌<◌, ◌≤◌, true, List, [], ◌∷◌, length, get_or, drop, is_err, Ok, Err, Result, refl, ap, ◌∙◌, add-one, arith, drop-cons}
use mathlib.Core.Option.{some, none}
use lib.Seq.{drop-length}
use Rattle.hol.specs.Text.{Mode as Place, gap, in_word, comment, turns, at_end, tokens}
use Rattle.hol.specs.Text.{Sexps, nil, cons, atom, count_sexps, onto, parse, sexps}
use Rattle.reader.specs.Counts.{CountSays}
use Rattle.reader.specs.Steps.{state, after, StepSays, EndSays}
use Rattle.reader.specs.declared.Fault.{Fault}
use Rattle.reader.specs.declared.Fault.TheVariants.{Broken}
use Rattle.reader.specs.declared.state.Mode.TheVariants.{Gap}
use Rattle.reader.specs.declared.state.Reader.{Reader}
use Rattle.reader.proofs.Stands.{counted, stands, Goes, Meets}
use Rattle.reader.proofs.Bytes.{meets}
use Rattle.reader.proofs.Bounds.{after_more}

-- the reader s behind the first i bytes of the text t: it stands for a mode and a stack from which the rest leads where the text leads
pub record Reading (t : List ℕ) (i : ℕ) (s : Reader) : Type 0 where
  pub place : Place
  pub top : Sexps
  pub below : List Sexps
  pub at : s ≡ stands place top below
  pub ahead : sexps t ≡ parse (tokens place (drop i t)) (top ∷ below)
  pub shallow : s.depth ≤ i
  pub few : s.commands ≤ i

pub begins : (t : List ℕ) → Reading t 0 (state Gap 0 0)
begins t = record { place = gap; top = nil; below = []; at = refl; ahead = refl; shallow = omega arith; few = omega arith }

module _ (t : List ℕ) (i : ℕ) (s : Reader) (now : Reading t i s) (h : i < length t) where
  -- the byte at i and the rest
  split : sexps t ≡ parse (tokens now.place (get_or t i 0 ∷ drop (i + 1) t)) (now.top ∷ now.below)
  split =
      let cut : drop i t ≡ get_or t i 0 ∷ drop (i + 1) t = rw (add-one, drop-cons t i 0) in
      now.ahead ∙ ap (λ (cs : List ℕ). parse (tokens now.place cs) (now.top ∷ now.below)) cut

  met : Meets (turns now.place (get_or t i 0)) now.top now.below (after s (get_or t i 0))
  met = rw now.at (meets now.place now.top now.below (get_or t i 0))

  pub goes_on : (r : Reader) → after s (get_or t i 0) ≡ some r → Reading t (i + 1) r
  goes_on r e =
      let g : Goes (turns now.place (get_or t i 0)) now.top now.below r = rw e at met in
      let more = after_more s r (get_or t i 0) e in
      record {
        place = (turns now.place (get_or t i 0)).mode;
        top = g.top;
        below = g.below;
        at = g.at;
        ahead = split ∙ g.same (tokens (turns now.place (get_or t i 0)).mode (drop (i + 1) t));
        shallow = omega arith;
        few = omega arith;
      }

  pub breaks : (r : Reader) (f : Fault) → StepSays (after s (get_or t i 0)) r (Err f) → sexps t ≡ none
  breaks r Broken e =
      let dead : Meets (turns now.place (get_or t i 0)) now.top now.below none = rw e at met in
      split ∙ dead (tokens (turns now.place (get_or t i 0)).mode (drop (i + 1) t))

-- THE END

count-onto : (us ts : Sexps) → count_sexps (onto us ts) ≡ count_sexps us + count_sexps ts
count-onto nil ts = omega arith
count-onto (cons u us) ts = omega (arith, count-onto us (cons u ts))

-- where no bracket is open, what was counted is there
matched : (p : Place) (us : Sexps) (uss : List Sexps) → length uss ≡ 0
    → (ts : Sexps) × (parse (at_end p) (us ∷ uss) ≡ some ts) × (count_sexps ts ≡ counted p us uss)
matched gap us [] h = (onto us nil, refl, count-onto us nil)
matched (in_word w) us [] h = (onto us (cons (atom w) nil), refl, count-onto us (cons (atom w) nil))
matched comment us [] h = (onto us nil, refl, count-onto us nil)
matched p us (vs ∷ uss) h = absurd (omega arith)

unmatched : (p : Place) (us : Sexps) (uss : List Sexps) → 0 < length uss → parse (at_end p) (us ∷ uss) ≡ none
unmatched p us [] h = absurd (omega arith)
unmatched gap us (vs ∷ uss) h = refl
unmatched (in_word w) us (vs ∷ uss) h = refl
unmatched comment us (vs ∷ uss) h = refl

module _ (t : List ℕ) (i : ℕ) (s : Reader) (now : Reading t i s) (over : i ≡ length t) where
  at_last : sexps t ≡ parse (at_end now.place) (now.top ∷ now.below)
  at_last = rw (over, drop-length) at now.ahead

  pub ends : (r : Result ℕ Fault) → EndSays s r → CountSays t r
  ends (Ok n) e =
      let m = matched now.place now.top now.below (cc) in
      (m.0, at_last ∙ m.1, cc)
  ends (Err Broken) e =
      let left : 0 < length now.below = rw now.at at e in
      at_last ∙ unmatched now.place now.top now.below left

-- an error says that the text has no S-expressions
pub refuses : (t : List ℕ) (r : Result ℕ Fault) → is_err r ≡ true → sexps t ≡ none → CountSays t r
refuses t (Ok n) e h = absurd (let z : ◌≡◌ {A = ℕ} 0 1 = cc in omega arith)
refuses t (Err Broken) e h = h
