-- A text has the S-expressions ts exactly if its tokens are those of ts written flat.
use Rattle.std.proofs.Common.{◌≡◌, ℕ, List, [], ◌∷◌, ◌++◌, sym, refl, ap, ◌∙◌, append_assoc, append-nil}
use mathlib.Core.Option.{some}
use Rattle.hol.specs.Text.{Token, opens, closes, word, gap, tokens, Sexp, Sexps, atom, list, nil, cons, onto, parse, sexps}
use Rattle.hol.proofs.Tools.{some_same, none_some}
use Rattle.reader.specs.Flat.{flat, flats}

-- FROM TREES TO TOKENS AND BACK

onto-onto : (us ts : Sexps) → onto (onto us ts) nil ≡ onto ts us
onto-onto nil ts = refl
onto-onto (cons u us) ts = onto-onto us (cons u ts)

-- a tree's tokens put it onto the stack
mutual
  pub parse-flat : (t : Sexp) (ps : List Token) (us : Sexps) (uss : List Sexps)
      → parse (flat t ++ ps) (us ∷ uss) ≡ parse ps (cons t us ∷ uss)
  parse-flat (atom w) ps us uss = refl
  parse-flat (list ts) ps us uss =
      rw append_assoc (rw (parse-flats ts (closes ∷ ps) nil (us ∷ uss), onto-onto ts nil))

  pub parse-flats : (ts : Sexps) (ps : List Token) (us : Sexps) (uss : List Sexps)
      → parse (flats ts ++ ps) (us ∷ uss) ≡ parse ps (onto ts us ∷ uss)
  parse-flats nil ps us uss = refl
  parse-flats (cons t ts) ps us uss = rw append_assoc (parse-flat t (flats ts ++ ps) us uss ∙ parse-flats ts ps (cons t us) uss)

pub parsed : (ts : Sexps) → parse (flats ts) (nil ∷ []) ≡ some ts
parsed ts = rw (append-nil, onto-onto ts nil) at (parse-flats ts [] nil [])

-- flat trees are the text's: its tokens decide them
pub sexps_from_flats : (t : List ℕ) (ts : Sexps) → tokens gap t ≡ flats ts → sexps t ≡ some ts
sexps_from_flats t ts e = rw e (parsed ts)

pub flats_decide : (ts us : Sexps) → flats ts ≡ flats us → ts ≡ us
flats_decide ts us e = some_same (sym (parsed ts) ∙ ap (λ ps. parse ps (nil ∷ [])) e ∙ parsed us)

-- FROM A TEXT TO ITS TREES

-- the tokens that led to the stack with us on top
abbrev behind : Sexps → List Sexps → List Token
behind us [] = flats (onto us nil)
behind us (vs ∷ uss) = behind vs uss ++ (opens ∷ flats (onto us nil))

flats-onto : (us ts : Sexps) → flats (onto us ts) ≡ flats (onto us nil) ++ flats ts
flats-onto nil ts = refl
flats-onto (cons u us) ts = rw (flats-onto us (cons u ts), flats-onto us (cons u nil), append-nil, append_assoc)

behind-cons : (t : Sexp) (us : Sexps) (uss : List Sexps) → behind (cons t us) uss ≡ behind us uss ++ flat t
behind-cons t us [] = rw (flats-onto us (cons t nil), append-nil)
behind-cons t us (vs ∷ uss) = rw (flats-onto us (cons t nil), append-nil, append_assoc)

from_parse : (ps : List Token) (us : Sexps) (uss : List Sexps) (ts : Sexps)
    → parse ps (us ∷ uss) ≡ some ts → behind us uss ++ ps ≡ flats ts
from_parse [] us [] ts e = rw append-nil (ap flats (some_same e))
from_parse [] us (vs ∷ uss) ts e = none_some e
from_parse (opens ∷ ps) us uss ts e = rw append_assoc at (from_parse ps nil (us ∷ uss) ts e)
from_parse (closes ∷ ps) us [] ts e = none_some e
from_parse (closes ∷ ps) us (vs ∷ uss) ts e =
    simp append_assoc (simp (behind-cons, append_assoc) at (from_parse ps (cons (list (onto us nil)) vs) uss ts e))
from_parse (word w ∷ ps) us uss ts e = simp (behind-cons, append_assoc) at (from_parse ps (cons (atom w) us) uss ts e)

pub flats_from_sexps : (t : List ℕ) (ts : Sexps) → sexps t ≡ some ts → tokens gap t ≡ flats ts
flats_from_sexps t ts e = from_parse (tokens gap t) nil [] ts e
