-- Assumption lists: which terms stand in them, that each stands once, and deriving with one list in place of another.
use Rattle.std.proofs.Common.{◌≡◌, true, false, not, List, [], ◌∷◌, ◌++◌, refl, inl, inr}
use Rattle.hol.specs.Syntax.{Tm, same_tm, bool}
use Rattle.hol.specs.Theory.{Theory, has_type}
use Rattle.hol.specs.Kernel.{in_hyps, union, remove, dedup}
use Rattle.hol.specs.Rules.{Derives, r_more}
use Rattle.hol.specs.Says.{Wf, once}
use Rattle.hol.proofs.Tools.{◌>>=◌, decided, clash, both, not_true, In, here, there, all_in, all_of, in_cons, in_cond, in_append}
use Rattle.hol.proofs.Equality.{in_terms, terms_in}
use Rattle.hol.proofs.Types.{seq_has, all_props}

-- UNION has what the two lists have
pub in_union_right : {x : Tm} (hs : List Tm) {gs : List Tm} → In x gs → In x (union hs gs)
in_union_right [] i = i
in_union_right (h ∷ hs) {gs} i =
    elim (decided (in_hyps h gs)) [ inl e ↦ rw e (in_union_right hs i) | inr e ↦ rw e (there (in_union_right hs i)) ]

pub in_union : {x : Tm} (hs gs : List Tm) → In x (hs ++ gs) → In x (union hs gs)
in_union [] gs i = i
in_union (h ∷ hs) gs here =
    elim (decided (in_hyps h gs)) [ inl e ↦ rw e (in_union_right hs (in_terms h gs e)) | inr e ↦ rw e here ]
in_union (h ∷ hs) gs (there i) =
    elim (decided (in_hyps h gs)) [ inl e ↦ rw e (in_union hs gs i) | inr e ↦ rw e (there (in_union hs gs i)) ]

pub of_union : {x : Tm} (hs gs : List Tm) → In x (union hs gs) → In x (hs ++ gs)
of_union [] gs i = i
of_union (h ∷ hs) gs i = in_cons (of_union hs gs) (in_cond (in_hyps h gs) i)

-- REMOVING leaves no more than there was
pub of_remove : {x : Tm} (t : Tm) (hs : List Tm) → In x (remove t hs) → In x hs
of_remove t [] i = i
of_remove t (h ∷ hs) i = in_cons (of_remove t hs) (in_cond (same_tm t h) i)

-- EACH ONCE is still there
pub in_dedup : {x : Tm} (hs : List Tm) → In x hs → In x (dedup hs)
in_dedup [] i = i
in_dedup (h ∷ hs) here = elim (decided (in_hyps h hs)) [ inl e ↦ rw e (in_dedup hs (in_terms h hs e)) | inr e ↦ rw e here ]
in_dedup (h ∷ hs) (there i) =
    elim (decided (in_hyps h hs)) [ inl e ↦ rw e (in_dedup hs i) | inr e ↦ rw e (there (in_dedup hs i)) ]

pub of_dedup : {x : Tm} (hs : List Tm) → In x (dedup hs) → In x hs
of_dedup [] i = i
of_dedup (h ∷ hs) i = in_cons (of_dedup hs) (in_cond (in_hyps h hs) i)

-- ONCE
-- what is not in gs is not in hs, if gs has all of hs
absent : (t : Tm) (hs gs : List Tm) → (In t hs → In t gs) → in_hyps t gs ≡ false → in_hyps t hs ≡ false
absent t hs gs f n = elim (decided (in_hyps t hs)) [ inl e ↦ clash (terms_in (f (in_terms t hs e))) n | inr e ↦ e ]

absent_append : (t : Tm) (hs gs : List Tm) → in_hyps t hs ≡ false → in_hyps t gs ≡ false → in_hyps t (hs ++ gs) ≡ false
absent_append t hs gs m n = elim (decided (in_hyps t (hs ++ gs))) [
  | inl e ↦ elim (in_append hs gs (in_terms t (hs ++ gs) e)) [ inl i ↦ clash (terms_in i) m | inr i ↦ clash (terms_in i) n ]
  | inr e ↦ e
]

-- one more that is new
once_more : (h : Tm) (hs : List Tm) → in_hyps h hs ≡ false → once hs ≡ true → once (h ∷ hs) ≡ true
once_more h hs n o = rw (n, o)

pub once-union : (hs gs : List Tm) → once hs ≡ true → once gs ≡ true → once (union hs gs) ≡ true
once-union [] gs p q = q
once-union (h ∷ hs) gs p q = do
  (n, o) ← both (not (in_hyps h hs)) _ p
  r ← once-union hs gs o q
  elim (decided (in_hyps h gs)) [
    | inl e ↦ rw e r
    | inr e ↦ rw e (once_more h _ (absent h _ (hs ++ gs) (of_union hs gs) (absent_append h hs gs (not_true _ n) e)) r)
  ]

pub once-remove : (t : Tm) (hs : List Tm) → once hs ≡ true → once (remove t hs) ≡ true
once-remove t [] p = refl
once-remove t (h ∷ hs) p = do
  (n, o) ← both (not (in_hyps h hs)) _ p
  r ← once-remove t hs o
  elim (decided (same_tm t h)) [ inl e ↦ rw e r | inr e ↦ rw e (once_more h _ (absent h _ hs (of_remove t hs) (not_true _ n)) r) ]

pub once-dedup : (hs : List Tm) → once (dedup hs) ≡ true
once-dedup [] = refl
once-dedup (h ∷ hs) = do
  r ← once-dedup hs
  elim (decided (in_hyps h hs)) [ inl e ↦ rw e r | inr e ↦ rw e (once_more h _ (absent h _ hs (of_dedup hs) e) r) ]

-- DERIVING with the same assumptions in another list
pub regroup : {th : Theory} {hs gs : List Tm} {t : Tm} → Wf th → ((x : Tm) → In x hs → In x gs) → ((x : Tm) → In x gs → In x hs)
    → Derives th hs t → Derives th gs t
regroup {th} {hs} {gs} w to from d =
    r_more (all_of (λ h. in_hyps h gs) hs (λ h i. terms_in (to h i)))
    (all_of (λ g. has_type th g bool) gs (λ g i. all_in (λ g. has_type th g bool) (all_props (seq_has w d).hyps) (from g i)))
    d

pub derives_union : {th : Theory} {t : Tm} (hs gs : List Tm) → Wf th → Derives th (hs ++ gs) t → Derives th (union hs gs) t
derives_union hs gs w d = regroup w (λ x. in_union hs gs) (λ x. of_union hs gs) d

pub derives_dedup : {th : Theory} {hs : List Tm} {t : Tm} → Wf th → Derives th hs t → Derives th (dedup hs) t
derives_dedup {hs = hs} w d = regroup w (λ x. in_dedup hs) (λ x. of_dedup hs) d
