-- What a reader of a stream of tokens learns of the trees in it from the first token.
use Rattle.std.proofs.Common.{◌≡◌, ℕ, List, [], ◌∷◌, ◌++◌, sym, refl, ap, ◌∙◌, append_assoc, arith}
use Rattle.hol.specs.Base.{Word}
use Rattle.hol.specs.Text.{Token, opens, closes, word, Sexp, Sexps, atom, list, nil, cons}
use Rattle.reader.specs.Flat.{flat, flats}

-- A TREE AHEAD, THEN THE REST

pub flat_word : (u : Sexp) (rest qs : List Token) (w : Word) → flat u ++ rest ≡ word w ∷ qs → (u ≡ atom w) × (qs ≡ rest)
flat_word (atom v) rest qs w e = (cc, cc)
flat_word (list ts) rest qs w e = absurd (let z : ◌≡◌ {A = ℕ} 0 1 = cc in omega arith)

pub flat-opens : (u : Sexp) (rest qs : List Token) → flat u ++ rest ≡ opens ∷ qs
    → (ts : Sexps) × (u ≡ list ts) × (qs ≡ flats ts ++ (closes ∷ rest))
flat-opens (atom v) rest qs e = absurd (let z : ◌≡◌ {A = ℕ} 0 1 = cc in omega arith)
flat-opens (list ts) rest qs e = (ts, refl, (let a = append_assoc (flats ts) (closes ∷ []) rest in cc))

pub flat-closes : (u : Sexp) (rest qs : List Token) → flat u ++ rest ≡ closes ∷ qs → ⊥
flat-closes (atom v) rest qs e = let z : ◌≡◌ {A = ℕ} 0 1 = cc in omega arith
flat-closes (list ts) rest qs e = let z : ◌≡◌ {A = ℕ} 0 1 = cc in omega arith

pub flat_empty : (u : Sexp) (rest : List Token) → flat u ++ rest ≡ [] → ⊥
flat_empty (atom v) rest e = let z : ◌≡◌ {A = ℕ} 0 1 = cc in omega arith
flat_empty (list ts) rest e = let z : ◌≡◌ {A = ℕ} 0 1 = cc in omega arith

-- TREES AHEAD, THEN THE BRACKET THAT CLOSES AROUND THEM, THEN THE REST

pub inside-closes : (ts : Sexps) (rest qs : List Token) → flats ts ++ (closes ∷ rest) ≡ closes ∷ qs → (ts ≡ nil) × (qs ≡ rest)
inside-closes nil rest qs e = (refl, cc)
inside-closes (cons u us) rest qs e = absurd (flat-closes u _ qs (sym (append_assoc (flat u) (flats us) (closes ∷ rest)) ∙ e))

pub inside-word : (ts : Sexps) (rest qs : List Token) (w : Word) → flats ts ++ (closes ∷ rest) ≡ word w ∷ qs
    → (us : Sexps) × (ts ≡ cons (atom w) us) × (qs ≡ flats us ++ (closes ∷ rest))
inside-word nil rest qs w e = absurd (let z : ◌≡◌ {A = ℕ} 0 1 = cc in omega arith)
inside-word (cons u us) rest qs w e =
    let r = flat_word u _ qs w (sym (append_assoc (flat u) (flats us) (closes ∷ rest)) ∙ e) in
    (us, ap (λ v. cons v us) r.0, r.1)

pub inside-opens : (ts : Sexps) (rest qs : List Token) → flats ts ++ (closes ∷ rest) ≡ opens ∷ qs
    → (vs us : Sexps) × (ts ≡ cons (list vs) us) × (qs ≡ flats vs ++ (closes ∷ (flats us ++ (closes ∷ rest))))
inside-opens nil rest qs e = absurd (let z : ◌≡◌ {A = ℕ} 0 1 = cc in omega arith)
inside-opens (cons u us) rest qs e =
    let r = flat-opens u _ qs (sym (append_assoc (flat u) (flats us) (closes ∷ rest)) ∙ e) in
    (r.0, us, ap (λ v. cons v us) r.1, r.2)

pub inside_empty : (ts : Sexps) (rest : List Token) → flats ts ++ (closes ∷ rest) ≡ [] → ⊥
inside_empty nil rest e = let z : ◌≡◌ {A = ℕ} 0 1 = cc in omega arith
inside_empty (cons u us) rest e = flat_empty u _ (sym (append_assoc (flat u) (flats us) (closes ∷ rest)) ∙ e)

-- TREES AHEAD, THEN THE END

pub outside_empty : (ts : Sexps) → flats ts ≡ [] → ts ≡ nil
outside_empty nil e = refl
outside_empty (cons u us) e = absurd (flat_empty u (flats us) e)

pub outside_closes : (ts : Sexps) (qs : List Token) → flats ts ≡ closes ∷ qs → ⊥
outside_closes nil qs e = let z : ◌≡◌ {A = ℕ} 0 1 = cc in omega arith
outside_closes (cons u us) qs e = flat-closes u (flats us) qs e

pub outside_word : (ts : Sexps) (qs : List Token) (w : Word) → flats ts ≡ word w ∷ qs
    → (us : Sexps) × (ts ≡ cons (atom w) us) × (qs ≡ flats us)
outside_word nil qs w e = absurd (let z : ◌≡◌ {A = ℕ} 0 1 = cc in omega arith)
outside_word (cons u us) qs w e = let r = flat_word u (flats us) qs w e in (us, ap (λ v. cons v us) r.0, r.1)

pub outside_opens : (ts : Sexps) (qs : List Token) → flats ts ≡ opens ∷ qs
    → (vs us : Sexps) × (ts ≡ cons (list vs) us) × (qs ≡ flats vs ++ (closes ∷ flats us))
outside_opens nil qs e = absurd (let z : ◌≡◌ {A = ℕ} 0 1 = cc in omega arith)
outside_opens (cons u us) qs e = let r = flat-opens u (flats us) qs e in (r.0, us, ap (λ v. cons v us) r.1, r.2)

-- A STREAM DECIDES ITS TREES AND WHAT FOLLOWS THEM

mutual
  pub flat_decides : (t u : Sexp) (ps qs : List Token) → flat t ++ ps ≡ flat u ++ qs → (t ≡ u) × (ps ≡ qs)
  flat_decides (atom w) u ps qs e = let r = flat_word u qs ps w (sym e) in (sym r.0, r.1)
  flat_decides (list ts) u ps qs e =
      let r = flat-opens u qs _ (sym e) in
      let s = flats_decides ts r.0 ps qs (sym (append_assoc (flats ts) (closes ∷ []) ps) ∙ r.2) in
      (ap list s.0 ∙ sym r.1, s.1)

  pub flats_decides : (ts us : Sexps) (ps qs : List Token) → flats ts ++ (closes ∷ ps) ≡ flats us ++ (closes ∷ qs)
      → (ts ≡ us) × (ps ≡ qs)
  flats_decides nil us ps qs e = let r = inside-closes us qs ps (sym e) in (sym r.0, r.1)
  flats_decides (cons t ts) nil ps qs e = absurd (flat-closes t _ qs (sym (append_assoc (flat t) (flats ts) (closes ∷ ps)) ∙ e))
  flats_decides (cons t ts) (cons u us) ps qs e =
      let r = flat_decides t u (flats ts ++ (closes ∷ ps)) (flats us ++ (closes ∷ qs)) (simp append_assoc at e) in
      let s = flats_decides ts us ps qs r.1 in
      (cc, s.1)
