-- Tests, options and lists: what is known where a choice came out one way.
use Rattle.std.proofs.Common.{◌≡◌, ℕ, zero, suc, Bool, true, false, cond, not, ◌&&◌, ◌||◌, ◌⊎◌, List, [], ◌∷◌, ◌++◌, sym, refl, ◌∙◌, inl, inr, true≢false}
use mathlib.Core.Option.{Option, some, none, some-injective, none-ne-some}
use Rattle.hol.specs.Base.{option, bind, guard, nth, all, any}

-- steps of a proof, each with what the one before found: do (x, p) ← step; ..
pub ◌>>=◌ : {A C : Type 0} → A → (A → C) → C
◌>>=◌ x f = f x

-- TESTS
pub decided : (b : Bool) → (b ≡ true) ⊎ (b ≡ false)
decided true = inl refl
decided false = inr refl

pub clash : {C : Type 0} {b : Bool} → b ≡ true → b ≡ false → C
clash t f = absurd (true≢false (sym t ∙ f))

pub both : (a b : Bool) → (a && b) ≡ true → (a ≡ true) × (b ≡ true)
both true b h = (refl, h)
both false b h = clash h refl

pub and_both : {a b : Bool} → a ≡ true → b ≡ true → (a && b) ≡ true
and_both p q = rw (p, q)

pub either : (a b : Bool) → (a || b) ≡ true → (a ≡ true) ⊎ (b ≡ true)
either true b h = inl refl
either false b h = inr h

pub neither : (a b : Bool) → (a || b) ≡ false → (a ≡ false) × (b ≡ false)
neither true b h = clash refl h
neither false b h = (refl, h)

pub or_first : {a : Bool} (b : Bool) → a ≡ true → (a || b) ≡ true
or_first b p = rw p

pub or_second : (a : Bool) {b : Bool} → b ≡ true → (a || b) ≡ true
or_second true q = refl
or_second false q = q

pub not_true : (b : Bool) → not b ≡ true → b ≡ false
not_true true h = sym h
not_true false h = refl

pub nor : (a b : Bool) → not (a || b) ≡ true → (a ≡ false) × (b ≡ false)
nor a b h = neither a b (not_true (a || b) h)

-- OPTIONS
pub some_same : {A : Type 0} {x y : A} → some x ≡ some y → x ≡ y
some_same {x = x} {y = y} e = some-injective x y e

pub none_some : {A C : Type 0} {x : A} → none ≡ some x → C
none_some {x = x} e = absurd (none-ne-some x e)

-- what is there, where going on with it finds something
pub bound : {A C : Type 0} (o : Option A) (f : A → Option C) {c : C} → bind o f ≡ some c → (x : A) × (o ≡ some x) × (f x ≡ some c)
bound none f e = none_some e
bound (some x) f e = (x, refl, e)

pub guarded : {A : Type 0} (b : Bool) (o : Option A) {x : A} → guard b o ≡ some x → (b ≡ true) × (o ≡ some x)
guarded true o e = (refl, e)
guarded false o e = none_some e

-- a test on what is there came out true
pub holds_of : {A : Type 0} (o : Option A) (f : A → Bool) → option o false f ≡ true → (x : A) × (o ≡ some x) × (f x ≡ true)
holds_of none f e = clash e refl
holds_of (some x) f e = (x, refl, e)

-- what holds either way holds of the choice
pub option_of : {A C : Type 0} (P : C → Type 0) (o : Option A) (c : C) (f : A → C) → P c → ((x : A) → o ≡ some x → P (f x))
    → P (option o c f)
option_of P none c f p q = p
option_of P (some x) c f p q = q x refl

pub cond_of : {C : Type 0} (P : C → Type 0) (b : Bool) (c d : C) → P c → P d → P (cond b c d)
cond_of P true c d p q = p
cond_of P false c d p q = q

-- whatever is there has P
pub data Each {A : Type 0} (P : A → Type 0) : Option A → Type 0 where
  each_none : Each P none
  each_some : {x : A} → P x → Each P (some x)

pub each_is : {A : Type 0} {P : A → Type 0} {x : A} → Each P (some x) → P x
each_is (each_some p) = p

pub each_of : {A : Type 0} {P : A → Type 0} (o : Option A) → ((x : A) → o ≡ some x → P x) → Each P o
each_of none h = each_none
each_of (some x) h = each_some (h x refl)

pub each_bind : {A C : Type 0} {P : C → Type 0} (o : Option A) (f : A → Option C) → ((x : A) → o ≡ some x → Each P (f x))
    → Each P (bind o f)
each_bind none f h = each_none
each_bind (some x) f h = h x refl

pub each_guard : {A : Type 0} {P : A → Type 0} (b : Bool) {o : Option A} → Each P o → Each P (guard b o)
each_guard true h = h
each_guard false h = each_none

-- LISTS
pub all_at : {A : Type 0} (f : A → Bool) (xs : List A) (n : ℕ) {x : A} → all f xs ≡ true → nth xs n ≡ some x → f x ≡ true
all_at f [] n h e = none_some e
all_at f (y ∷ xs) zero h e = rw (← some_same e) (both _ _ h).0
all_at f (y ∷ xs) (suc n) h e = all_at f xs n (both _ _ h).1 e

pub all_more : {A : Type 0} (f g : A → Bool) → ((x : A) → f x ≡ true → g x ≡ true) → (xs : List A) → all f xs ≡ true
    → all g xs ≡ true
all_more f g h [] p = refl
all_more f g h (x ∷ xs) p = and_both (h x (both _ _ p).0) (all_more f g h xs (both _ _ p).1)

-- what is one of the elements of xs
pub data In {A : Type 0} (x : A) : List A → Type 0 where
  here : {xs : List A} → In x (x ∷ xs)
  there : {y : A} {xs : List A} → In x xs → In x (y ∷ xs)

pub all_in : {A : Type 0} (f : A → Bool) {x : A} {xs : List A} → all f xs ≡ true → In x xs → f x ≡ true
all_in f h here = (both _ _ h).0
all_in f h (there i) = all_in f (both _ _ h).1 i

pub all_of : {A : Type 0} (f : A → Bool) (xs : List A) → ((x : A) → In x xs → f x ≡ true) → all f xs ≡ true
all_of f [] h = refl
all_of f (x ∷ xs) h = and_both (h x here) (all_of f xs (λ y i. h y (there i)))

pub any_in : {A : Type 0} (f : A → Bool) (xs : List A) → any f xs ≡ true → (x : A) × In x xs × (f x ≡ true)
any_in f [] h = clash h refl
any_in f (x ∷ xs) h = elim (either _ _ h) [ inl e ↦ (x, here, e) | inr e ↦ let (y, i, q) = any_in f xs e in (y, there i, q) ]

pub in_any : {A : Type 0} (f : A → Bool) {x : A} {xs : List A} → In x xs → f x ≡ true → any f xs ≡ true
in_any f here h = or_first _ h
in_any f (there i) h = or_second _ (in_any f i h)

pub in_none : {A : Type 0} (f : A → Bool) {x : A} {xs : List A} → any f xs ≡ false → In x xs → f x ≡ false
in_none f h here = (neither _ _ h).0
in_none f h (there i) = in_none f (neither _ _ h).1 i

pub in_cons : {A : Type 0} {x y : A} {xs zs : List A} → (In x xs → In x zs) → In x (y ∷ xs) → In x (y ∷ zs)
in_cons f here = here
in_cons f (there i) = there (f i)

-- whether or not y was left out
pub in_cond : {A : Type 0} {x y : A} {xs : List A} (b : Bool) → In x (cond b xs (y ∷ xs)) → In x (y ∷ xs)
in_cond true i = there i
in_cond false i = i

pub in_left : {A : Type 0} {x : A} {xs : List A} (ys : List A) → In x xs → In x (xs ++ ys)
in_left ys here = here
in_left ys (there i) = there (in_left ys i)

pub in_right : {A : Type 0} {x : A} (xs : List A) {ys : List A} → In x ys → In x (xs ++ ys)
in_right [] i = i
in_right (y ∷ xs) i = there (in_right xs i)

pub in_append : {A : Type 0} {x : A} (xs ys : List A) → In x (xs ++ ys) → In x xs ⊎ In x ys
in_append [] ys i = inr i
in_append (x ∷ xs) ys here = inl here
in_append (y ∷ xs) ys (there i) = elim (in_append xs ys i) [ inl j ↦ inl (there j) | inr j ↦ inr j ]
