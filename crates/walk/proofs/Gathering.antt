-- Names gathered so far, while items are still to be gone through.
use Rattle.std.proofs.Common.{◌≡◌, ℕ, suc, List, [], length, reverse, sym, refl, ap, ◌∙◌}
use mathlib.Core.Option.{Option}
use Rattle.std.proofs.lemmas.List.{length-reverse}
use Rattle.hol.specs.Base.{Word}
use Rattle.store.specs.State.{Contents}
use Rattle.walk.specs.Standing.{Names, Stand, done, more}
use Rattle.walk.proofs.Pending.{Pending, ended}

-- the words ns, the last first, stand for the names gathered, and ws for the items still to come
pub record Gathering {I : Type 0} (c : Contents) (at : ℕ → Option I) (act : I → List Word → List Word) (size : I → ℕ)
    (goal : List Word) (bound : ℕ) (ws ns : List ℕ) : Type 0 where
  pub gathered : List Word
  pub names : Names c (reverse ns) gathered
  pub pending : Pending at act size goal bound ws gathered (length ns)

-- nothing is left
pub gathered_all : {I : Type 0} {c : Contents} {at : ℕ → Option I} {act : I → List Word → List Word} {size : I → ℕ}
    {goal : List Word} {bound : ℕ} {ws ns : List ℕ}
    → Gathering c at act size goal bound ws ns → ws ≡ [] → Names c (reverse ns) goal
gathered_all h q = rw (ended h.pending q) at h.names

-- as many words as items
pub stand_same_length : {I : Type 0} {at : ℕ → Option I} {ns : List ℕ} {is : List I} → Stand at ns is → length ns ≡ length is
stand_same_length done = refl
stand_same_length (more e h) = ap suc (stand_same_length h)

-- as many names as words
pub names_length : (c : Contents) (ns : List ℕ) {ws : List Word} → Names c (reverse ns) ws → length ws ≡ length ns
names_length c ns h = sym (stand_same_length h) ∙ length-reverse ns
