-- Which change an instance does stays while the store grows: what each instance gives of the trait for leaves.
use Rattle.std.specs.Prelude.{ℕ, List}
use Rattle.store.specs.State.{Contents, Keeps}
use Rattle.rebuild_types.proofs.Lookup.{entries-kept}
use Rattle.hol.specs.Syntax.{Subst}
use Rattle.rebuild.specs.Rebuilt.{Change}
use Rattle.rebuild.specs.Instances.{Opens, Closes, Entries, nothing, entry, Substitutes, Instantiates}

pub opens_kept : {c d : Contents} {n : ℕ} {F : Change} → Keeps c d → Opens c n F → Opens d n F
opens_kept {n = n} k o = record { tm = o.tm; tm_is = k.term n o.tm o.tm_is; change = o.change }

pub closes_kept : {c d : Contents} {x a : ℕ} {F : Change} → Keeps c d → Closes c x a F → Closes d x a F
closes_kept {x = x} {a = a} k o = record {
  name = o.name;
  ty = o.ty;
  name_is = k.word x o.name o.name_is;
  ty_is = k.typ a o.ty o.ty_is;
  change = o.change;
}

pub tm_entries_kept : {c d : Contents} {ws : List ℕ} {es : Subst} → Keeps c d → Entries c ws es → Entries d ws es
tm_entries_kept k nothing = nothing
tm_entries_kept k (entry {x} {a} {n} {w} {b} {u} e f g r) = entry (k.word x w e) (k.typ a b f) (k.term n u g) (tm_entries_kept k r)

pub substitutes_kept : {c d : Contents} {ws : List ℕ} {F : Change} → Keeps c d → Substitutes c ws F → Substitutes d ws F
substitutes_kept k o = record { entries = o.entries; entries_are = tm_entries_kept k o.entries_are; change = o.change }

pub instantiates_kept : {c d : Contents} {ws : List ℕ} {F : Change} → Keeps c d → Instantiates c ws F → Instantiates d ws F
instantiates_kept k o = record { entries = o.entries; entries_are = entries-kept k o.entries_are; change = o.change }
