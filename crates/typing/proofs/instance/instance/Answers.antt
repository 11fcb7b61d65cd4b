use Rattle.std.proofs.Common.{[], sym, ap, ◌∙◌, inl, inr, arith}
use Rattle.hol.specs.Syntax.{tyvars_ty, zip}
use Rattle.walk.specs.Standing.{done}
use Rattle.lent.proofs.Refused.{refused}
use Rattle.lent.proofs.Words.{whole}
use Rattle.typing.proofs.Instancing.{stacked_in, entries_stacked, short_names, not_as_many, few_words, made, not_made, as_many}
use Rattle.typing.proofs.instance.instance.Goals as goal

pub tyvars_type-requires-clause-names : goal.tyvars_type-requires-clause-names
tyvars_type-requires-clause-names g c = ([], rw c.new-gathered.ensures.empty done)

pub returns-in_err-tyvars_type : goal.returns-in_err-tyvars_type
returns-in_err-tyvars_type g c b bs hb h =
    let t = (c.in_err-tyvars_type.ensures.cases b [] hb (rw c.new-gathered.ensures.empty done)).1 in
    refused _ c.from_residual.result c.from_residual.ensures.0 (short_names b bs _ _ _ (rw c.new-gathered.ensures.empty at t))

pub returns-then-not-has_count : goal.returns-then-not-has_count
returns-then-not-has_count g c b bs hb h =
    let t = c.in_ok-tyvars_type.ensures in
    let f = c.tyvars_type.new.names in
    let n = stacked_in (g.S.Store.state c.tyvars_type.new.store).contents c.tyvars_type.new.names
    (t.cases b [] hb (rw c.new-gathered.ensures.empty done)) in
    not_as_many t.stays b bs f.len f.words.now f.fits n
    (sym c.if-not-has_count.true ∙ c.has_count.ensures bs (t.stays.grows.keeps.types _ bs h))

pub pair-requires-clause-names : goal.pair-requires-clause-names
pair-requires-clause-names g c =
    let t = c.in_ok-tyvars_type.ensures in
    let (b, hb) = c.requires.typ in
    let f = c.tyvars_type.new.names in
    let n = stacked_in (g.S.Store.state c.tyvars_type.new.store).contents c.tyvars_type.new.names
    (t.cases b [] hb (rw c.new-gathered.ensures.empty done)) in
    (tyvars_ty b [], rw c.split_at_mut-names.ensures.front n)

pub returns-in_err-pair : goal.returns-in_err-pair
returns-in_err-pair g c b bs hb h =
    let t = c.in_ok-tyvars_type.ensures in
    let f = c.tyvars_type.new.names in
    let s = c.split_at_mut-names.ensures in
    let n = stacked_in (g.S.Store.state c.tyvars_type.new.store).contents c.tyvars_type.new.names
    (t.cases b [] hb (rw c.new-gathered.ensures.empty done)) in
    let hs = t.stays.grows.keeps.types _ bs h in
    let q = as_many t.stays b bs f.len f.words.now f.fits n (sym c.if-not-has_count.false ∙ c.has_count.ensures bs hs) in
    let l = c.in_err-pair.ensures (tyvars_ty b []) bs (rw s.front n) hs (q ∙ sym s.front_len) in
    let z = whole f ∙ (t.adds.capacity ∙ ap (λ p. p.capacity) c.new-gathered.ensures.empty) in
    let e = ap (λ p. p.capacity) c.new-entries.ensures.empty in
    let m = few_words t.stays b bs f.len f.words.now f.fits n s.back_len (omega (arith, l, e, s.front_len)) in
    refused _ c.from_residual-in_err-pair.result c.from_residual-in_err-pair.ensures.0 (inl (inr (omega (arith, m, z))))

pub subst_type-requires-clause-entries : goal.subst_type-requires-clause-entries
subst_type-requires-clause-entries g c =
    let t = c.in_ok-tyvars_type.ensures in
    let (b, hb) = c.requires.typ in
    let (bs, h) = c.requires.types in
    let f = c.tyvars_type.new.names in
    let s = c.split_at_mut-names.ensures in
    let d = (g.S.Store.state c.tyvars_type.new.store).contents in
    let n = stacked_in d c.tyvars_type.new.names (t.cases b [] hb (rw c.new-gathered.ensures.empty done)) in
    let hs = t.stays.grows.keeps.types _ bs h in
    let q = as_many t.stays b bs f.len f.words.now f.fits n (sym c.if-not-has_count.false ∙ c.has_count.ensures bs hs) in
    (zip (tyvars_ty b []) bs, entries_stacked d c.as_slice.ensures (c.in_ok-pair.ensures (tyvars_ty b []) bs (rw s.front n) hs (q ∙ sym s.front_len)))

pub returns-in_err-subst_type : goal.returns-in_err-subst_type
returns-in_err-subst_type g c b bs hb h =
    let t = c.in_ok-tyvars_type.ensures in
    let f = c.tyvars_type.new.names in
    let s = c.split_at_mut-names.ensures in
    let d = (g.S.Store.state c.tyvars_type.new.store).contents in
    let n = stacked_in d c.tyvars_type.new.names (t.cases b [] hb (rw c.new-gathered.ensures.empty done)) in
    let hs = t.stays.grows.keeps.types _ bs h in
    let r = sym c.if-not-has_count.false ∙ c.has_count.ensures bs hs in
    let q = as_many t.stays b bs f.len f.words.now f.fits n r in
    let es = entries_stacked d c.as_slice.ensures (c.in_ok-pair.ensures (tyvars_ty b []) bs (rw s.front n) hs (q ∙ sym s.front_len)) in
    refused _ c.from_residual-in_err-subst_type.result c.from_residual-in_err-subst_type.ensures.0
    (not_made t.stays b bs f.len f.words.now f.fits n _ _ r
    (rw c.tyvars_type.auto.words at (c.in_err-subst_type.ensures (zip (tyvars_ty b []) bs) b es (t.stays.grows.keeps.typ _ b hb))))

pub returns : goal.returns
returns g c b bs hb h =
    let t = c.in_ok-tyvars_type.ensures in
    let f = c.tyvars_type.new.names in
    let s = c.split_at_mut-names.ensures in
    let d = (g.S.Store.state c.tyvars_type.new.store).contents in
    let n = stacked_in d c.tyvars_type.new.names (t.cases b [] hb (rw c.new-gathered.ensures.empty done)) in
    let hs = t.stays.grows.keeps.types _ bs h in
    let r = sym c.if-not-has_count.false ∙ c.has_count.ensures bs hs in
    let q = as_many t.stays b bs f.len f.words.now f.fits n r in
    let es = entries_stacked d c.as_slice.ensures (c.in_ok-pair.ensures (tyvars_ty b []) bs (rw s.front n) hs (q ∙ sym s.front_len)) in
    made t.stays b bs f.len f.words.now f.fits n r
    (c.in_ok-subst_type.ensures (zip (tyvars_ty b []) bs) b es (t.stays.grows.keeps.typ _ b hb))
