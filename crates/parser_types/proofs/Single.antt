-- One type: a word, or a bracket with a name and types.
use Rattle.std.proofs.Common.{◌≡◌, ℕ, ◌+◌, ◌<◌, false, List, ◌∷◌, ◌++◌, length, sym, ap, ◌∙◌, inl, inr, arith}
use mathlib.Core.Option.{some}
use Rattle.hol.specs.Base.{Word, bind}
use Rattle.hol.specs.Syntax.{tyapp, tnil}
use Rattle.hol.specs.Theory.{is_tyvar}
use Rattle.hol.specs.Text.{Token as Sign, opens, closes, word, Sexp, Sexps, atom, list, cons, read_type, read_types}
use Rattle.reader.specs.Flat.{flat, flats, cost, costs}
use Rattle.reader.proofs.Streams.{flat_word, flat-opens, inside-word}
use Rattle.reader.specs.Next.{stands, stream, Gives}
use Rattle.reader.specs.declared.tokens.Token.{Token}
use Rattle.reader.specs.declared.tokens.Tokens.{Tokens}
use Rattle.store.specs.State.{State}
use Rattle.store.specs.Builds.{Made, Full, IsWord, IsTyapp}
use Rattle.store.proofs.Growth.{grows_same, grows_on, grows-more}
use Rattle.parser_types.specs.Reads.{Read, Unread, Short, IsWordType, Named, Unnamed, NameShort}
use Rattle.parser_types.proofs.Steps.{no_type}

-- the token that was read
pub given_token : {a e : Tokens} {p q : Token} → Gives a p e → p ≡ q → stream a ≡ stands q ∷ stream e
given_token {e = e} g i = g.ahead ∙ ap (λ r. stands r ∷ stream e) i

-- a word that is no type variable names a type without arguments
pub plain_type : {s t u : State} {w : Word} {n e a : ℕ} → is_tyvar w ≡ false → Made (length w) s t (IsWord w) n
    → t.contents.types e ≡ some tnil → Made 1 t u (IsTyapp n e) a → Made (1 + length w) s u (IsWordType w) a
plain_type {w = w} {n = n} {e = e} b m i k =
    let g = k.grows.keeps in
    record {
      grows = grows-more (omega arith) (grows_on m.grows k.grows);
      stands = rw b (k.stands w tnil (g.word n w m.stands) (g.types e tnil i));
    }

-- a word is a type
module _ (u : Sexp) (qs : List Sign) {ps rs : List Sign} {w : Word} (e : ps ≡ flat u ++ qs) (i : ps ≡ word w ∷ rs) where
  pub word_read : {s t : State} {n : ℕ} → Made (1 + length w) s t (IsWordType w) n → Read (λ c. c.typ) (read_type u) (cost u) s t qs rs n
  word_read m =
      let (a, b) = flat_word u qs rs w (sym e ∙ i) in
      let l = ap cost a in
      record { value = _; reads = ap read_type a; stands = m.stands; grows = grows-more (omega arith) m.grows; behind = b }

  pub word-short : {left : ℕ} → left < 1 + length w → left < cost u
  word-short h =
      let (a, b) = flat_word u qs rs w (sym e ∙ i) in
      let l = ap cost a in
      omega arith

module _ (u : Sexp) (qs : List Sign) {ps rs : List Sign} (e : ps ≡ flat u ++ qs) (i : ps ≡ opens ∷ rs) where
  -- a bracket without a name is no type
  pub unnamed : {s t : State} → Unnamed is_tyvar s t rs → Unread (read_type u) (cost u) s t
  unnamed b =
      let (ts, k, l) = flat-opens u qs rs (sym e ∙ i) in
      let m = no_type ts (closes ∷ qs) (λ w ss f. b.no_name w ss (l ∙ f)) in
      record { reads = ap read_type k ∙ m; grows = rw b.same (grows-more (omega arith) grows_same) }

  pub name-short : {s : State} → NameShort s rs → s.left < cost u
  name-short b =
      let (ts, k, l) = flat-opens u qs rs (sym e ∙ i) in
      let (us, m, n) = inside-word ts qs b.behind b.name (sym l ∙ b.ahead) in
      let x = ap cost k in
      let y = ap costs m in
      let z = b.short in
      omega arith

  -- the types behind the name of a bracket
  module _ {s t : State} {ss : List Sign} {n : ℕ} (b : Named is_tyvar s t rs ss n) where
    pub arguments : (us : Sexps) × (u ≡ list (cons (atom b.name) us)) × (ss ≡ flats us ++ (closes ∷ qs))
    arguments =
        let (ts, k, l) = flat-opens u qs rs (sym e ∙ i) in
        let (us, m, n) = inside-word ts qs ss b.name (sym l ∙ b.ahead) in
        (us, k ∙ ap list m, n)

    reads_bracket : read_type u ≡ bind (read_types arguments.0) (λ bs. some (tyapp b.name bs))
    reads_bracket = ap read_type arguments.1 ∙ rw b.plain

    pub arguments_unread : {r : State} → Unread (read_types arguments.0) (costs arguments.0) t r → Unread (read_type u) (cost u) s r
    arguments_unread a =
        let l = ap cost arguments.1 in
        record { reads = reads_bracket ∙ rw a.reads; grows = grows-more (omega arith) (grows_on b.made.grows a.grows) }

    pub arguments_short : {room : ℕ} → Short room (costs arguments.0) t → Short room (cost u) s
    arguments_short (inl h) = let l = ap cost arguments.1 in let m = b.made.grows.cost in inl (omega arith)
    arguments_short (inr h) = let l = ap cost arguments.1 in inr (omega arith)

    module _ {r : State} {as₁ : ℕ} {ms : List Sign} (a : Read (λ c. c.types) (read_types arguments.0) (costs arguments.0) t r qs ms as₁) where
      pub bracket_read : {v : State} {k : ℕ} → Made 1 r v (IsTyapp n as₁) k → Read (λ c. c.typ) (read_type u) (cost u) s v qs ms k
      bracket_read m =
          let l = ap cost arguments.1 in
          let g = m.grows.keeps in
          record {
            value = tyapp b.name a.value;
            reads = reads_bracket ∙ rw a.reads;
            stands =
                m.stands b.name a.value (g.word n b.name (a.grows.keeps.word n b.name b.made.stands))
                (g.types as₁ a.value a.stands);
            grows = grows-more (omega arith) (grows_on (grows_on b.made.grows a.grows) m.grows);
            behind = a.behind;
          }

      pub bracket_short : {v : State} → Full 1 r v → s.left < cost u
      bracket_short f =
          let l = ap cost arguments.1 in
          let x = b.made.grows.cost in
          let y = a.grows.cost in
          let z = f.short in
          omega arith
