-- What the words of one declaration more, behind the others, make of a table.
use Rattle.std.proofs.Common.{◌≡◌, ℕ, ◌+◌, ◌*◌, ◌≤◌, List, ◌∷◌, length, refl, ap, ◌∙◌, arith}
use borrow.Rule.Slice.PartMut.{put_mid}
use Rattle.hol.specs.Theory.{Decl, Theory}
use Rattle.store.specs.State.{Contents}
use Rattle.lent.specs.Piles.{pile, onto}
use Rattle.lent.proofs.Words.{pushed}
use Rattle.theory.specs.declared.declaration.Declaration.{Declaration}
use Rattle.theory.specs.declared.declaration.Declaration.TheVariants.{«Type» as Typename, Constant, Definition, Axiom, Theorem}
use Rattle.theory.specs.declared.table.Decls.{Decls}
use Rattle.theory.specs.Rows.{words_of, Says, Table}
use Rattle.theory.specs.Knows.{held, Added}

four_words : (r : Declaration) → length (words_of r) ≡ 4
four_words (Typename n) = refl
four_words (Constant n a) = refl
four_words (Definition n a t) = refl
four_words (Axiom n t) = refl
four_words (Theorem n h t) = refl

table_more : (c : Contents) (r : Declaration) (d : Decl) (ws : List ℕ) (th : Theory) → Says c r d → Table c ws th
    → Table c (onto (words_of r) ws) (d ∷ th)
table_more c (Typename n) d ws th s x = (s, x)
table_more c (Constant n a) d ws th s x = (s, x)
table_more c (Definition n a t) d ws th s x = (s, x)
table_more c (Axiom n t) d ws th s x = (s, x)
table_more c (Theorem n h t) d ws th s x = (s, x)

-- the words vs of a declaration stand behind those of s, and are counted
pub added : (r : Declaration) (s t : Decls) (vs : List ℕ) (k : ℕ) → 4 * s.used + 4 ≤ length s.words.now → k ≡ 4 → vs ≡ words_of r
    → t.words.now ≡ put_mid (4 * s.used) k s.words.now vs → t.used ≡ s.used + 1 → t.ground ≡ s.ground
    → Added r s t
added r s t vs k room four is words used ground =
    let n = 4 * s.used in
    let long : length vs ≡ k = ap length is ∙ omega (arith, four_words r) in
    let p = pushed s.words.now vs n k 0 (omega arith) long (omega arith) in
    let upto : 4 * t.used ≡ n + k = omega arith in
    let same : pile t.words.now (4 * t.used) 0 ≡ pile (put_mid n k s.words.now vs) (n + k) 0 = rw (words, upto) refl in
    let onto_held : held t ≡ onto (words_of r) (held s) = ap (λ q. q.held) (same ∙ p) ∙ rw is refl in
    record {
      count = used;
      held = onto_held;
      ground = ground;
      len = ap (λ q. q.capacity) (same ∙ p);
      knows = λ c th d x y. record {
        count = (let e = x.count in omega arith);
        table = rw onto_held (table_more c r d (held s) th y x.table);
        eq_type = rw ground x.eq_type;
        choice_type = rw ground x.choice_type;
      };
    }
