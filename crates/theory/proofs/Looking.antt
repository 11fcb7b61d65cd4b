-- Looking through a table from the newest declaration to the oldest.
use Rattle.std.proofs.Common.{◌≡◌, ℕ, ◌+◌, ◌-◌, ◌<◌, ◌≤◌, Bool, true, false, cond, ◌&&◌, List, [], ◌∷◌, ◌++◌, length, reverse, take, drop, get_or, ◌==◌, Some, None, Option as Maybe, sym, refl, ap, ◌∙◌, inl, inr, arith}
use Rattle.std.specs.Option.{is_some}
use Rattle.std.proofs.lemmas.List.{reverse-append, length-reverse, take-append-drop, drop_more, drop_all}
use mathlib.Core.Option.{some, none}
use Rattle.hol.specs.Base.{Word, same_word}
use Rattle.hol.specs.Theory.{Decl, d_type, d_const, d_def, d_axiom, d_thm, Theory}
use Rattle.hol.proofs.Tools.{decided, clash, some_same}
use Rattle.hol.proofs.Equality.{word_eq, word_refl}
use Rattle.store.specs.State.{Contents, Keeps}
use Rattle.signature.specs.Finds.{Finds}
use Rattle.theory.specs.declared.declaration.Declaration.{Declaration}
use Rattle.theory.specs.declared.declaration.Declaration.TheVariants.{«Type» as Typename, Constant, Definition, Axiom, Theorem}
use Rattle.theory.specs.Rows.{declaration_of, Says, Table}
use Rattle.theory.specs.Kept.{says_kept}
use Rattle.theory.specs.Lookups.{Part, decl_name, newest}

-- what a comparison of two numbers says of the names that they stand for
names_same : (c : Contents) (m n : ℕ) (v w : Word) (r : Bool) → c.word m ≡ some v → c.word n ≡ some w
    → (r ≡ true → c.word m ≡ c.word n)
    → ((u : Word) → c.word m ≡ some u → c.word n ≡ some u → r ≡ true)
    → r ≡ same_word v w
names_same c m n v w r ev ew sound complete =
    elim (decided r) [
      | inl e ↦ e ∙ sym (rw (some_same (sym ev ∙ (sound e ∙ ew))) (word_refl w))
      | inr e ↦ elim (decided (same_word v w)) [
        | inl f ↦ clash (complete v ev (rw (word_eq v w f) ew)) e
        | inr f ↦ e ∙ sym f
      ]
    ]

-- the name of a declaration of four words is the second of them
abbrev named : Declaration → ℕ
named (Typename n) = n
named (Constant n a) = n
named (Definition n a t) = n
named (Axiom n t) = n
named (Theorem n h t) = n

says_named : (c : Contents) (r : Declaration) (d : Decl) → Says c r d → c.word (named r) ≡ some (decl_name d)
says_named c (Typename n) (d_type w) s = s
says_named c (Constant n a) (d_const w ty) s = s.0
says_named c (Definition n a t) (d_def w ty b) s = s.0
says_named c (Axiom n t) (d_axiom w p) s = s.0
says_named c (Theorem n h t) (d_thm w q) s = s.0
says_named c _ _ s = absurd s

named_cond : (b : Bool) (p q : Declaration) (n : ℕ) → named p ≡ n → named q ≡ n → named (cond b p q) ≡ n
named_cond true p q n e f = e
named_cond false p q n e f = f

named-declaration_of : (k n f s : ℕ) → named (declaration_of k n f s) ≡ n
named-declaration_of k n f s =
    named_cond (k == 0) _ _ n refl (named_cond (k == 1) _ _ n refl (named_cond (k == 2) _ _ n refl (named_cond (k == 3) _ _ n refl refl)))

-- words are left, the newest first, and what they say decides
pub record Looking (c : Contents) (ws : List ℕ) (x : Decl → Bool) (w : Word) (th : Theory) : Type 0 where
  pub rest : Theory
  pub table : Table c ws rest
  pub decides : newest x w th ≡ newest x w rest

-- no declaration is left
none_left : (c : Contents) (x : Decl → Bool) (w : Word) (ws : List ℕ) (rest : Theory) → length ws < 4 → Table c ws rest → newest x w rest ≡ none
none_left c x w [] [] h t = refl
none_left c x w (s ∷ f ∷ n ∷ k ∷ ws) (d ∷ th) h t = absurd (omega arith)
none_left c x w _ _ h t = absurd t

-- the newest declaration that is left
record Head (c : Contents) (r : Declaration) (ws : List ℕ) (x : Decl → Bool) (w : Word) (th : Theory) : Type 0 where
  decl : Decl
  older : Theory
  says : Says c r decl
  table : Table c ws older
  decides : newest x w th ≡ newest x w (decl ∷ older)

head : (c : Contents) (x : Decl → Bool) (w : Word) (th : Theory) (s f n k : ℕ) (ws : List ℕ) → Looking c (s ∷ f ∷ n ∷ k ∷ ws) x w th
    → Head c (declaration_of k n f s) ws x w th
head c x w th s f n k ws l = from l.rest l.table l.decides where
  from : (rest : Theory) → Table c (s ∷ f ∷ n ∷ k ∷ ws) rest → newest x w th ≡ newest x w rest → Head c (declaration_of k n f s) ws x w th
  from [] t d = absurd t
  from (y ∷ ys) t d = record { decl = y; older = ys; says = t.0; table = t.1; decides = d }

-- the declaration of the last four of the words, the newest
abbrev pub last_of : List ℕ → Declaration
last_of ws = declaration_of (get_or ws (length ws - 4) 0) (get_or ws (length ws - 3) 0) (get_or ws (length ws - 2) 0) (get_or ws (length ws - 1) 0)

one_more : (ws : List ℕ) (i j : ℕ) → i < length ws → j ≡ i + 1 → drop i ws ≡ get_or ws i 0 ∷ drop j ws
one_more ws i j h e = rw e (drop_more ws i 0 h)

four_last : (ws : List ℕ) → 4 ≤ length ws
    → reverse ws
    ≡ get_or ws (length ws - 1) 0 ∷ get_or ws (length ws - 2) 0 ∷ get_or ws (length ws - 3) 0 ∷ get_or ws (length ws - 4) 0
    ∷ reverse (take (length ws - 4) ws)
four_last ws h =
    let e0 = one_more ws (length ws - 4) (length ws - 3) (omega arith) (omega arith) in
    let e1 = one_more ws (length ws - 3) (length ws - 2) (omega arith) (omega arith) in
    let e2 = one_more ws (length ws - 2) (length ws - 1) (omega arith) (omega arith) in
    let e3 = one_more ws (length ws - 1) (length ws) (omega arith) (omega arith) in
    let e4 = drop_all (length ws) ws (omega arith) in
    let older = take (length ws - 4) ws in
    let last : drop (length ws - 4) ws
    ≡ get_or ws (length ws - 4) 0 ∷ get_or ws (length ws - 3) 0 ∷ get_or ws (length ws - 2) 0 ∷ get_or ws (length ws - 1) 0 ∷ []
    = rw (e0, e1, e2, e3, e4) refl in
    ap reverse (sym (take-append-drop (length ws - 4) ws) ∙ ap (λ vs. older ++ vs) last) ∙ reverse-append older _

-- is a declaration of these numbers among what is wanted, and of this name?
abbrev pub Tells : Contents → (Decl → Bool) → Word → Declaration → Bool → Type 0
Tells c x w r b = (d : Decl) → Says c r d → (x d && same_word w (decl_name d)) ≡ b

module _ (c : Contents) (x : Decl → Bool) (w : Word) (ws : List ℕ) where
  pub unwanted : ((d : Decl) → Says c (last_of ws) d → x d ≡ false) → Tells c x w (last_of ws) false
  unwanted h d s = rw (h d s) refl

  -- the names are compared while the store has grown from c to e
  pub compared : {e : Contents} (n : ℕ) (b : Bool) → Keeps c e → c.word n ≡ some w → ((d : Decl) → Says c (last_of ws) d → x d ≡ true)
      → (b ≡ true → e.word n ≡ e.word (get_or ws (length ws - 3) 0))
      → ((u : Word) → e.word n ≡ some u → e.word (get_or ws (length ws - 3) 0) ≡ some u → b ≡ true)
      → Tells c x w (last_of ws) b
  compared {e} n b k word t sound complete d s =
      let name = rw (named-declaration_of _ _ _ _) at (says_named e _ d (says_kept k _ d s)) in
      rw (t d s) (sym (names_same e n _ w (decl_name d) b (k.word _ _ word) name sound complete))

  module _ {th : Theory} (h : 4 ≤ length ws) (l : Looking c (reverse ws) x w th) where
    newest_left : Head c (last_of ws) (reverse (take (length ws - 4) ws)) x w th
    newest_left = head c x w th _ _ _ _ _ (rw (four_last ws h) at l)

    by_test : {b : Bool} → Tells c x w (last_of ws) b → newest x w th ≡ cond b (some newest_left.decl) (newest x w newest_left.older)
    by_test t = let y = newest_left in y.decides ∙ ap (λ v. cond v (some y.decl) (newest x w y.older)) (t y.decl y.says)

    -- it is not wanted: on to the older ones
    pub on : Tells c x w (last_of ws) false → Looking c (reverse (take (length ws - 4) ws)) x w th
    on t = record { rest = newest_left.older; table = newest_left.table; decides = by_test t }

    -- it is wanted, and m is the answer at it
    pub here : {X : Type 0} (post : Declaration → Maybe X → Type 0) (m : Maybe X) → Tells c x w (last_of ws) true → is_some m ≡ true
        → post (last_of ws) m → Finds (Part c post) (newest x w th) m
    here post None t e p = clash e refl
    here post (Some y) t e p =
        record { what = newest_left.decl; is = by_test t; stands = record { numbers = last_of ws; says = newest_left.says; answers = p } }

-- no declaration is left
pub nowhere : (c : Contents) (x : Decl → Bool) (w : Word) (th : Theory) (ws : List ℕ) → length ws < 4 → Looking c (reverse ws) x w th
    → newest x w th ≡ none
nowhere c x w th ws h k = k.decides ∙ none_left c x w (reverse ws) k.rest (rw length-reverse h) k.table
