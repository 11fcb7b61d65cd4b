-- Names: the empty one, and one more byte before a name.
use Rattle.std.proofs.Common.{◌≡◌, ℕ, ◌<◌, ◌≤◌, ◌+◌, List, [], ◌∷◌, ◌++◌, length, get_or, sym, ap, ◌∙◌, arith, lt-ltb}
use Rattle.std.proofs.lemmas.List.{append_assoc, append-nil, length-append}
use Rattle.std.proofs.Math.Seq.{get_or-append_seam}
use mathlib.Core.Option.{some}
use Rattle.hol.specs.Base.{Word, bind}
use Rattle.hol.specs.Syntax.{tyvar, tnil}
use Rattle.store.specs.Builds.{Made, IsWord}
use Rattle.store.specs.State.{State, Grows}
use Rattle.nodes.specs.declared.kind.Kind.TheVariants.{Byte, TypeVariable}
use Rattle.nodes.specs.Items.{name, ty, as_word, as_types, as_terms}
use Rattle.nodes.specs.Meaning.{held, IsMade}
use Rattle.nodes.specs.Table.{rows}
use Rattle.nodes.proofs.Growing.{grows_none, grows_on}
use Rattle.nodes.proofs.Made.{made_at, m_byte, m_tyvar}
use Rattle.nodes.proofs.Numbers.{items_zero}

-- the number 0
pub zero_word : (ws : List ℕ) (u : ℕ) → (held ws u).word 0 ≡ some []
zero_word ws u = ap (λ o. bind o as_word) (items_zero (rows ws u))

pub zero_types : (ws : List ℕ) (u : ℕ) → (held ws u).types 0 ≡ some tnil
zero_types ws u = ap (λ o. bind o as_types) (items_zero (rows ws u))

pub zero_terms : (ws : List ℕ) (u : ℕ) → (held ws u).terms 0 ≡ some []
zero_terms ws u = ap (λ o. bind o as_terms) (items_zero (rows ws u))

-- n is the name of the last bytes of w; those in `rest` come before them
pub record Named (s t : State) (w rest : Word) (n : ℕ) : Type 0 where
  pub last : Word
  pub is : w ≡ rest ++ last
  pub grows : Grows (length last) s t
  pub stands : t.contents.word n ≡ some last

-- behind the last byte stands the empty name
pub names_none : (s : State) (w : Word) → s.contents.word 0 ≡ some [] → Named s s w w 0
names_none s w e = record { last = []; is = sym (append-nil w); grows = grows_none s; stands = e }

module _ {s t : State} {w before : Word} {n : ℕ} (rest : Word) (b : ℕ) (now : Named s t w before n) (e : before ≡ rest ++ b ∷ []) where
  -- one more byte before them
  pub names_more : (u : State) (k : ℕ) → ((i : ℕ) → get_or w i 0 < 256) → Grows 1 t u → IsMade Byte b n u.contents k → Named s u w rest k
  names_more u k bytes g made =
      let is : w ≡ rest ++ (b ∷ now.last) = now.is ∙ (ap (λ xs. xs ++ now.last) e ∙ append_assoc rest (b ∷ []) now.last) in
      let at : get_or w (length rest) 0 ≡ b = ap (λ xs. get_or xs (length rest) 0) is ∙ get_or-append_seam rest b now.last 0 in
      let byte : b < 256 = omega (arith, at, bytes (length rest)) in
      record {
        last = b ∷ now.last;
        is = is;
        grows = grows_on (length now.last) 1 (length (b ∷ now.last)) s t u (omega arith) now.grows g;
        stands = made (name b now.last) (made_at u.contents b n (m_byte (lt-ltb b 256 byte) (g.keeps.word n _ now.stands)));
      }

  -- there is room for it
  pub names_room : length w ≤ s.left → t.left < 1 → ⊥
  names_room fits short =
      let l : length w ≡ length before + length now.last = ap length now.is ∙ length-append before now.last in
      let m : length before ≡ length rest + 1 = ap length e ∙ length-append rest (b ∷ []) in
      omega (arith, now.grows.cost)

-- no byte is left
pub names_all : {s t : State} {w : Word} {n : ℕ} (rest : Word) → Named s t w rest n → length rest ≡ 0 → Made (length w) s t (IsWord w) n
names_all [] now e = rw now.is (record { grows = now.grows; stands = now.stands })
names_all (b ∷ rest) now e = absurd (omega arith)

-- the type variable of a name that was built before
pub names_letter : (t u : State) (w : Word) (n k : ℕ) → t.contents.word n ≡ some w → u.contents.word 0 ≡ some [] → Grows 1 t u
    → IsMade TypeVariable n 0 u.contents k → u.contents.typ k ≡ some (tyvar w)
names_letter t u w n k e z g made = made (ty (tyvar w)) (made_at u.contents n 0 (m_tyvar z (g.keeps.word n w e)))
