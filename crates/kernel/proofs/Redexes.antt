-- A λ applied to an argument: what the rule beta finds of it, and how large its body is.
use Rattle.std.proofs.Common.{◌≡◌, ◌≤◌, [], sym, refl, arith}
use mathlib.Core.Option.{Option as Maybe, some, none}
use Rattle.hol.specs.Base.{bind}
use Rattle.hol.specs.Syntax.{Ty, Tm, equal, open_at}
use Rattle.hol.specs.Theory.{Theory, type_of}
use Rattle.hol.specs.Kernel.{app_of, lam_of, seq, k_beta}
use Rattle.hol.proofs.Tools.{◌>>=◌, some_same, none_some, bound}
use Rattle.hol.proofs.Shapes.{app_is, lam_is}
use Rattle.store.specs.Measures.{nodes_tm}
use Rattle.kernel.specs.Redexes.{Parts, redex_of}
use Rattle.kernel.proofs.Fits.{beta_fits}

-- whether there is an answer does not depend on what is made of it
missed : {A B C : Type 0} (o : Maybe A) (f : A → B) (g : A → C) → bind o (λ x. some (f x)) ≡ none → bind o (λ x. some (g x)) ≡ none
missed none f g e = refl
missed (some x) f g e = none_some (sym e)

-- nor where there are two, one after the other
missed_after : {A B C D : Type 0} (o : Maybe A) (p : A → Maybe B) (f : A → B → C) (g : A → B → D) → bind o (λ x. bind (p x) (λ y. some (f x y))) ≡ none
    → bind o (λ x. bind (p x) (λ y. some (g x y))) ≡ none
missed_after none p f g e = refl
missed_after (some x) p f g e = missed (p x) (f x) (g x) e

-- going on with what is always none
none_after : {A B : Type 0} (o : Maybe A) (f : A → Maybe B) → ((x : A) → f x ≡ none) → bind o f ≡ none
none_after none f h = refl
none_after (some x) f h = h x

-- beta finds nothing where the term is no λ applied to an argument
pub beta_misses : (th : Theory) (u : Tm) → redex_of u ≡ none → k_beta th u ≡ none
beta_misses th u e = none_after (type_of th u) _ (λ b. missed_after (app_of u) (λ w. lam_of w.func) _ (λ w f. seq [] (equal b u (open_at 0 w.arg f.body))) e)

-- what it finds where the term is one
pub redex_fits : (th : Theory) (u : Tm) (b : Ty) (r : Parts) → type_of th u ≡ some b → redex_of u ≡ some r → k_beta th u ≡ some (seq [] (equal b u (open_at 0 r.arg r.body)))
redex_fits th u b r e h = do
  (w, w_is, h₁) ← bound (app_of u) _ h
  (f, f_is, s) ← bound (lam_of w.func) _ h₁
  rw (← some_same s) (beta_fits th u w f e w_is f_is)

-- the body has at most as many nodes as the whole
pub body_nodes : (u : Tm) (r : Parts) → redex_of u ≡ some r → nodes_tm r.body ≤ nodes_tm u
body_nodes u r h = do
  (w, w_is, h₁) ← bound (app_of u) _ h
  (f, f_is, s) ← bound (lam_of w.func) _ h₁
  rw (← some_same s, app_is u w_is, lam_is w.func f_is) (omega arith)
