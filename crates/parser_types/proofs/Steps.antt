-- One lemma for each move of the machine that reads a list of types.
use Rattle.std.proofs.Common.{◌≡◌, ℕ, ◌+◌, ◌*◌, ◌<◌, Bool, true, false, not, List, [], ◌∷◌, ◌++◌, length, sym, refl, ap, ◌∙◌, arith}
use mathlib.Core.Option.{Option, some, none}
use Rattle.hol.specs.Base.{Word, bind, guard}
use Rattle.hol.specs.Syntax.{Ty, tyapp, Tys, tnil, tcons}
use Rattle.hol.specs.Theory.{is_tyvar}
use Rattle.hol.specs.Text.{Token, opens, closes, word, Sexps, atom, list, nil, cons, read_type_word, read_type_list, read_types}
use Rattle.reader.specs.Flat.{flats, costs}
use Rattle.reader.proofs.Streams.{inside-closes, inside-word, inside-opens, inside_empty}
use Rattle.store.specs.State.{Contents, State}
use Rattle.store.specs.Builds.{Made, IsTyapp, IsTypes}
use Rattle.store.proofs.Growth.{grows_same, grows-more}
use Rattle.parser_types.specs.Reads.{IsWordType, Named, Unnamed, NameShort}
use Rattle.parser_types.specs.Machine.{Path, root, inside, before, finish, after, Point, reading, closing, ended, outcome, weight, Holds, holds_root, holds_type, holds_name, At, at_next, at_close, at_end, Moved, Stuck}
use Rattle.parser_types.specs.declared.turn.Turn.TheVariants.{Next, Close, End}
use Rattle.parser_types.specs.Marks.{code, Decodes}
use Rattle.parser_types.specs.declared.turn.Mark.TheVariants.{Bracket, Argument}
use Rattle.parser_types.proofs.Stack.{holds_kept, held-length, Top, top_type, top_name, top}

pub finish_none : (p : Path) → finish p none ≡ none
finish_none root = refl
finish_none (inside c as₁ vs p) = finish_none p

-- one type more was read
one_more : (o : Option Tys) (a : Ty) (as₁ : List Ty)
    → bind o (λ bs. some (before (a ∷ as₁) bs)) ≡ bind (bind o (λ bs. some (tcons a bs))) (λ bs. some (before as₁ bs))
one_more none a as₁ = refl
one_more (some bs) a as₁ = refl

-- a bracket was opened: o is what is read in it, r what is read behind it
one_inside : (b : Bool) (o r : Option Tys) (c : Word) (as₁ : List Ty) → b ≡ false
    → bind (bind o (λ bs. some bs)) (λ bs. bind r (λ ds. some (before as₁ (tcons (tyapp c bs) ds))))
    ≡ bind (bind (guard (not b) (bind o (λ bs. some (tyapp c bs)))) (λ a. bind r (λ ds. some (tcons a ds)))) (λ bs. some (before as₁ bs))
one_inside true o r c as₁ e = absurd (let z : ◌≡◌ {A = Bool} true false = e in let y : ◌≡◌ {A = ℕ} 0 1 = cc in omega arith)
one_inside false none r c as₁ e = refl
one_inside false (some bs) none c as₁ e = refl
one_inside false (some bs) (some ds) c as₁ e = refl

-- no name, no type
pub no_type : (ts : Sexps) (rs : List Token) → ((w : Word) (ss : List Token) → flats ts ++ rs ≡ word w ∷ ss → is_tyvar w ≡ true)
    → read_type_list ts ≡ none
no_type nil rs h = refl
no_type (cons (atom c) ts) rs h = rw (h c _ refl)
no_type (cons (list us) ts) rs h = refl

module _ {ws : List ℕ} {ps qs : List Token} where
  -- READING

  -- no token is ahead: this cannot be
  pub no_token : {c : Contents} {x : Point} → At c ws ps qs Next x → ps ≡ [] → ⊥
  no_token (at_next {p = p} {us = us} h e) q = inside_empty us (after p qs) (sym e ∙ q)

  -- a word: a type
  pub word_read : {s t : State} {w : Word} {rs : List Token} {n : ℕ} {vs : List ℕ} {x : Point} → At s.contents ws ps qs Next x → ps ≡ word w ∷ rs
      → Made (1 + length w) s t (IsWordType w) n → vs ≡ code Argument ∷ n ∷ ws → Moved s t vs rs qs x Next
  word_read {w = w} {rs = rs} (at_next {p = p} {as₁ = as₁} {us = us} h e) q m v =
      let (us₁, i, j) = inside-word us (after p qs) rs w (sym e ∙ q) in
      let l = ap costs i in
      record {
        to = reading p (read_type_word w ∷ as₁) us₁;
        at = at_next (holds_type v m.stands (holds_kept m.grows.keeps h)) j;
        outcome = ap (finish p) (one_more (read_types us₁) (read_type_word w) as₁) ∙ ap (λ u. outcome (reading p as₁ u)) (sym i);
        cost = 1 + length w;
        grows = m.grows;
        weight = omega arith;
      }

  pub word-short : {c : Contents} {left : ℕ} {w : Word} {rs : List Token} {x : Point} → At c ws ps qs Next x → ps ≡ word w ∷ rs
      → left < 1 + length w → left < weight x
  word-short {w = w} {rs = rs} (at_next {p = p} {us = us} h e) q l =
      let (us₁, i, j) = inside-word us (after p qs) rs w (sym e ∙ q) in
      let k = ap costs i in
      omega arith

  pub word_full : {c : Contents} {capacity : ℕ} {w : Word} {rs : List Token} {x : Point} → At c ws ps qs Next x → ps ≡ word w ∷ rs
      → capacity < length ws + 2 → capacity < 4 * weight x
  word_full {w = w} {rs = rs} (at_next {p = p} {us = us} h e) q l =
      let (us₁, i, j) = inside-word us (after p qs) rs w (sym e ∙ q) in
      let k = ap costs i in
      let m = held-length h in
      omega arith

  -- a bracket and its name
  pub bracket_opened : {s t : State} {rs ss : List Token} {n : ℕ} {vs : List ℕ} {x : Point} → At s.contents ws ps qs Next x → ps ≡ opens ∷ rs
      → (b : Named is_tyvar s t rs ss n) → vs ≡ code Bracket ∷ n ∷ ws → Moved s t vs ss qs x Next
  bracket_opened {rs = rs} {ss = ss} (at_next {p = p} {as₁ = as₁} {us = us} h e) q b v =
      let (ts, us₁, i, j) = inside-opens us (after p qs) rs (sym e ∙ q) in
      let (ts₁, k, l) = inside-word ts (flats us₁ ++ (closes ∷ after p qs)) ss b.name (sym j ∙ b.ahead) in
      let m = b.made in
      let y = ap costs i in
      let z = ap costs k in
      record {
        to = reading (inside b.name as₁ us₁ p) [] ts₁;
        at = at_next (holds_name v m.stands (holds_kept m.grows.keeps h)) l;
        outcome =
            ap (finish p) (one_inside (is_tyvar b.name) (read_types ts₁) (read_types us₁) b.name as₁ b.plain)
            ∙ ap (λ u. outcome (reading p as₁ u)) (sym (i ∙ ap (λ u. cons (list u) us₁) k));
        cost = length b.name;
        grows = m.grows;
        weight = omega arith;
      }

  pub bracket_short : {s : State} {rs : List Token} {x : Point} → At s.contents ws ps qs Next x → ps ≡ opens ∷ rs → NameShort s rs
      → s.left < weight x
  bracket_short {rs = rs} (at_next {p = p} {us = us} h e) q b =
      let (ts, us₁, i, j) = inside-opens us (after p qs) rs (sym e ∙ q) in
      let (ts₁, k, l) = inside-word ts (flats us₁ ++ (closes ∷ after p qs)) b.behind b.name (sym j ∙ b.ahead) in
      let y = ap costs i in
      let z = ap costs k in
      let m = b.short in
      omega arith

  pub bracket_full : {c : Contents} {capacity : ℕ} {rs ss : List Token} {w : Word} {x : Point} → At c ws ps qs Next x → ps ≡ opens ∷ rs
      → rs ≡ word w ∷ ss → capacity < length ws + 2 → capacity < 4 * weight x
  bracket_full {rs = rs} {ss = ss} {w = w} (at_next {p = p} {us = us} h e) q b r =
      let (ts, us₁, i, j) = inside-opens us (after p qs) rs (sym e ∙ q) in
      let (ts₁, k, l) = inside-word ts (flats us₁ ++ (closes ∷ after p qs)) ss w (sym j ∙ b) in
      let y = ap costs i in
      let z = ap costs k in
      let m = held-length h in
      omega arith

  -- a bracket without a name
  pub bracket_unnamed : {s t : State} {rs : List Token} {x : Point} → At s.contents ws ps qs Next x → ps ≡ opens ∷ rs → Unnamed is_tyvar s t rs
      → Stuck s t x
  bracket_unnamed {rs = rs} (at_next {p = p} {as₁ = as₁} {us = us} h e) q b =
      let (ts, us₁, i, j) = inside-opens us (after p qs) rs (sym e ∙ q) in
      let k = no_type ts (closes ∷ (flats us₁ ++ (closes ∷ after p qs))) (λ w ss f. b.no_name w ss (j ∙ f)) in
      record {
        outcome = ap (λ u. outcome (reading p as₁ u)) i ∙ (rw k (finish_none p));
        grows = rw b.same (grows-more (omega arith) grows_same);
      }

  -- the bracket at hand closes
  pub bracket_closed : {s : State} {rs : List Token} {n : ℕ} {x : Point} → At s.contents ws ps qs Next x → ps ≡ closes ∷ rs
      → s.contents.types n ≡ some tnil → Moved s s ws rs qs x (Close n)
  bracket_closed {rs = rs} (at_next {p = p} {as₁ = as₁} {us = us} h e) q m =
      let (i, j) = inside-closes us (after p qs) rs (sym e ∙ q) in
      record {
        to = closing p as₁ tnil;
        at = at_close m h j;
        outcome = ap (λ u. outcome (reading p as₁ u)) (sym i);
        cost = 0;
        grows = grows_same;
        weight = omega arith;
      }

  -- COLLECTING
  module _ {n : ℕ} where
    -- nothing is on the stack: the whole list was read
    pub list-ended : {s : State} {vs : List ℕ} {x : Point} → At s.contents ws ps qs (Close n) x → length ws < 2 → Moved s s vs ps qs x (End n)
    list-ended {s = s} {vs = vs} (at_close m h e) l = go h m e l
      where
        go : {us : List ℕ} {p : Path} {as₁ : List Ty} {bs : Tys} → Holds s.contents us p as₁ → s.contents.types n ≡ some bs
            → ps ≡ after p qs → length us < 2 → Moved s s vs ps qs (closing p as₁ bs) (End n)
        go {bs = bs} holds_root m e l = record {
          to = ended bs;
          at = at_end m e;
          outcome = refl;
          cost = 0;
          grows = grows_same;
          weight = omega arith;
        }
        go (holds_type q f h) m e l = absurd (omega (arith, ap length q))
        go (holds_name q f h) m e l = absurd (omega (arith, ap length q))

    module _ {k m : ℕ} {vs : List ℕ} (q : ws ≡ k ∷ m ∷ vs) where
      -- a type comes before the list
      pub argument_collected : {s t : State} {j : ℕ} {x : Point} → At s.contents ws ps qs (Close n) x → Decodes k Argument
          → Made 1 s t (IsTypes m n) j → Moved s t vs ps qs x (Close j)
      argument_collected {s = s} {t = t} {j = j} (at_close e h a) r b = go (top h q r) e a
        where
          go : {p : Path} {as₁ : List Ty} {bs : Tys} → Top s.contents m vs Argument p as₁ → s.contents.types n ≡ some bs
              → ps ≡ after p qs → Moved s t vs ps qs (closing p as₁ bs) (Close j)
          go {bs = bs} (top_type {p = p} {a = a} {as₁ = as₁} f h) e i =
              let g = b.grows.keeps in
              record {
                to = closing p as₁ (tcons a bs);
                at = at_close (b.stands a bs (g.typ m a f) (g.types n bs e)) (holds_kept g h) i;
                outcome = refl;
                cost = 1;
                grows = b.grows;
                weight = omega arith;
              }

      -- a name makes a type of the list
      pub bracket_collected : {s t : State} {j : ℕ} {us : List ℕ} {x : Point} → At s.contents ws ps qs (Close n) x
          → Decodes k Bracket → Made 1 s t (IsTyapp m n) j → us ≡ code Argument ∷ j ∷ vs
          → Moved s t us ps qs x Next
      bracket_collected {s = s} {t = t} {j = j} {us = us} (at_close e h a) r b u = go (top h q r) e a
        where
          go : {p : Path} {as₁ : List Ty} {bs : Tys} → Top s.contents m vs Bracket p as₁ → s.contents.types n ≡ some bs
              → ps ≡ after p qs → Moved s t us ps qs (closing p as₁ bs) Next
          go {bs = bs} (top_name {p = p} {w = w} {as₁ = as₁} {us = vs₁} f h) e i =
              let g = b.grows.keeps in
              record {
                to = reading p (tyapp w bs ∷ as₁) vs₁;
                at = at_next (holds_type u (b.stands w bs (g.word m w f) (g.types n bs e)) (holds_kept g h)) i;
                outcome = refl;
                cost = 1;
                grows = b.grows;
                weight = omega arith;
              }

      -- the type takes the place of the name, so that there always is one
      pub bracket_refull : {c : Contents} {capacity : ℕ} {x : Point} → At c ws ps qs (Close n) x → capacity < length vs + 2
          → capacity < 4 * weight x
      bracket_refull (at_close e h a) l = let i = held-length h in let y = ap length q in omega arith
