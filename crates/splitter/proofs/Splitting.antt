-- The threes of a clause say of the first variables what the clause says.
use Rattle.std.proofs.Common.{◌≡◌, ℕ, suc, ◌+◌, ◌-◌, ◌≤◌, Bool, true, false, cond, not, ◌||◌, eqb, leb, List, [], ◌∷◌, length, ℤ, sym, refl, ap, ◌∙◌, ⊎_elim, arith}
use Rattle.std.proofs.Math.Bool.{or-false}
use Rattle.std.proofs.lemmas.Bool.{and_from, and_parts, or_left, or_cases, eq-eqb, ne_eqb, cond-true, cond-false, cond_both, leb-true, true≢false}
use Rattle.solver.specs.Rows.{Row, Agree, holds, named, all_named, some_true, price}
use Rattle.solver.specs.Meaning.{Meaning}
use Rattle.solver.proofs.Rows.{some_true_agree, holds_agree, agree_through}
use Rattle.splitter.specs.Chains.{chain, in_threes, Split}
use Rattle.splitter.specs.Sizes.{full_over}
use Rattle.splitter.specs.Stands.{over, Sound}

or_drop : (h a f t : Bool) → (h || (a || f)) ≡ true → (not f || t) ≡ true → (h || (a || t)) ≡ true
or_drop true a f t p q = refl
or_drop false true f t p q = refl
or_drop false false true t p q = q
or_drop false false false t p q = absurd (true≢false (sym p))

or_end : (a b : Bool) → (a || b) ≡ (a || (b || false))
or_end a b = ap (λ x. a || x) (sym (or-false b))

or_three : (h a b : Bool) → (h || (a || b)) ≡ true → (h || (a || (b || false))) ≡ true
or_three h a b p = ap (λ x. h || x) (sym (or_end a b)) ∙ p

-- a chain that holds makes the value before or one of the literals true
chain_some : (row : Row) (h : Bool) (xs : List ℤ) (f : ℕ) → chain row h xs f ≡ true → (h || some_true row xs) ≡ true
chain_some row true [] f p = refl
chain_some row false [] f p = p
chain_some row true (x ∷ []) f p = refl
chain_some row false (x ∷ []) f p = or_left _ _ p
chain_some row h (x ∷ (y ∷ [])) f p = or_three h (holds row x) (holds row y) p
chain_some row h (x ∷ (y ∷ (z ∷ zs))) f p =
    let r = and_parts (h || (holds row x || row (suc f))) _ p in
    or_drop h (holds row x) (row (suc f)) _ r.0 (chain_some row (not (row (suc f))) (y ∷ (z ∷ zs)) (suc f) r.1)

pub threes_some : (row : Row) (c : List ℤ) (f : ℕ) → in_threes row c f ≡ true → some_true row c ≡ true
threes_some row [] f p = p
threes_some row (x ∷ xs) f p = chain_some row (holds row x) xs f p

-- a row with another value at v
abbrev with_value : Row → ℕ → Bool → Row
with_value row v b k = cond (eqb k v) b (row k)

with_same : (row : Row) (v : ℕ) (b : Bool) → with_value row v b v ≡ b
with_same row v b = cond-true (eqb v v) b (row v) (eq-eqb v v refl)

with_agree : (row : Row) (f : ℕ) (b : Bool) → Agree f row (with_value row (suc f) b)
with_agree row f b k l m = sym (cond-false (eqb k (suc f)) b (row k) (ne_eqb k (suc f) (λ e. omega (arith, e, m))))

or_next : (h a s : Bool) → (h || (a || s)) ≡ true → (not (not (h || a)) || s) ≡ true
or_next true a s p = refl
or_next false true s p = refl
or_next false false s p = p

or_first : (h a : Bool) → (h || (a || not (h || a))) ≡ true
or_first true a = refl
or_first false true = refl
or_first false false = refl

-- where the value before or a literal is true, values of fresh variables make the chain true
some_chain : (vars : ℕ) (row : Row) (h : Bool) (xs : List ℤ) (f : ℕ) → vars ≤ f → all_named vars xs ≡ true → (h || some_true row xs) ≡ true → (r : Row) × Agree f row r × (chain r h xs f ≡ true)
some_chain vars row true [] f l k p = (row, (λ v _ _. refl), refl)
some_chain vars row false [] f l k p = (row, (λ v _ _. refl), p)
some_chain vars row true (x ∷ []) f l k p = (row, (λ v _ _. refl), refl)
some_chain vars row false (x ∷ []) f l k p = (row, (λ v _ _. refl), ⊎_elim (λ e. e) (λ e. absurd (true≢false (sym e))) (or_cases (holds row x) false p))
some_chain vars row true (x ∷ (y ∷ [])) f l k p = (row, (λ v _ _. refl), refl)
some_chain vars row false (x ∷ (y ∷ [])) f l k p = (row, (λ v _ _. refl), or_end (holds row x) (holds row y) ∙ p)
some_chain vars row h (x ∷ (y ∷ (z ∷ zs))) f l k p =
    let n = and_parts (named vars x) _ k in
    let b = not (h || holds row x) in
    let row₁ = with_value row (suc f) b in
    let g : Agree f row row₁ = with_agree row f b in
    let gv : Agree vars row row₁ = λ v low high. g v low (omega (arith, high, l)) in
    let same = some_true_agree vars row row₁ gv (y ∷ (z ∷ zs)) n.1 in
    let q : (not b || some_true row₁ (y ∷ (z ∷ zs))) ≡ true = ap (λ t. not b || t) (sym same) ∙ or_next h (holds row x) (some_true row (y ∷ (z ∷ zs))) p in
    let rest = some_chain vars row₁ (not b) (y ∷ (z ∷ zs)) (suc f) (omega (arith, l)) n.1 q in
    let r = rest.0 in
    let at : r (suc f) ≡ b = sym (rest.1 (suc f) (omega arith) (omega arith)) ∙ with_same row (suc f) b in
    let ag : Agree f row r = agree_through f (suc f) row row₁ r (omega arith) g rest.1 in
    let agv : Agree vars row r = λ v low high. ag v low (omega (arith, high, l)) in
    let hx = holds_agree vars row r agv x n.0 in
    let first : (h || (holds r x || r (suc f))) ≡ true = ap (λ t. h || (t || r (suc f))) (sym hx) ∙ ap (λ t. h || (holds row x || t)) at ∙ or_first h (holds row x) in
    let second : chain r (not (r (suc f))) (y ∷ (z ∷ zs)) (suc f) ≡ true = ap (λ t. chain r (not t) (y ∷ (z ∷ zs)) (suc f)) at ∙ rest.2 in
    (r, ag, and_from _ _ first second)

pub some_threes : (vars : ℕ) (row : Row) (c : List ℤ) (f : ℕ) → vars ≤ f → all_named vars c ≡ true → some_true row c ≡ true → (r : Row) × Agree f row r × (in_threes r c f ≡ true)
some_threes vars row [] f l k p = absurd (true≢false (sym p))
some_threes vars row (x ∷ xs) f l k p =
    let n = and_parts (named vars x) _ k in
    let found = some_chain vars row (holds row x) xs f l n.1 p in
    let r = found.0 in
    let g : Agree vars row r = λ v low high. found.1 v low (omega (arith, high, l)) in
    (r, found.1, ap (λ h. chain r h xs f) (sym (holds_agree vars row r g x n.0)) ∙ found.2)

-- a chain reads the variables up to its last fresh one
chain_agree : (vars : ℕ) (a b : Row) (h : Bool) (xs : List ℤ) (f : ℕ) → vars ≤ f → all_named vars xs ≡ true → Agree (f + (length xs - 2)) a b → chain a h xs f ≡ chain b h xs f
chain_agree vars a b h [] f l k g = refl
chain_agree vars a b h (x ∷ []) f l k g =
    let gv : Agree vars a b = λ v low high. g v low (omega (arith, high, l)) in
    ap (λ t. h || t) (holds_agree vars a b gv x (and_parts (named vars x) _ k).0)
chain_agree vars a b h (x ∷ (y ∷ [])) f l k g =
    let gv : Agree vars a b = λ v low high. g v low (omega (arith, high, l)) in
    let n = and_parts (named vars x) _ k in
    rw (holds_agree vars a b gv x n.0, holds_agree vars a b gv y (and_parts (named vars y) _ n.1).0) refl
chain_agree vars a b h (x ∷ (y ∷ (z ∷ zs))) f l k g =
    let gv : Agree vars a b = λ v low high. g v low (omega (arith, high, l)) in
    let n = and_parts (named vars x) _ k in
    let e : a (suc f) ≡ b (suc f) = g (suc f) (omega arith) (omega arith) in
    let rest = chain_agree vars a b (not (b (suc f))) (y ∷ (z ∷ zs)) (suc f) (omega (arith, l)) n.1 (λ v low high. g v low (omega (arith, high))) in
    rw (holds_agree vars a b gv x n.0, e, rest) refl

pub threes_agree : (vars : ℕ) (a b : Row) (c : List ℤ) (f : ℕ) → vars ≤ f → all_named vars c ≡ true → Agree (f + (length c - 3)) a b → in_threes a c f ≡ in_threes b c f
threes_agree vars a b [] f l k g = refl
threes_agree vars a b (x ∷ xs) f l k g =
    let n = and_parts (named vars x) _ k in
    let gv : Agree vars a b = λ v low high. g v low (omega (arith, high, l)) in
    let e = holds_agree vars a b gv x n.0 in
    ap (λ h. chain a h xs f) e ∙ chain_agree vars a b (holds b x) xs f l n.1 (λ v low high. g v low (omega (arith, high)))

-- a clause needs no more fresh variables than it costs
pub fresh_paid : (n : ℕ) → n - 3 ≤ price n
fresh_paid n = cond_both (leb n 3) 1 (n - 2) (λ p. n - 3 ≤ p) (λ e. omega (arith, leb-true n 3 e)) (λ e. omega arith)

module _ (b : Meaning) (vars fresh room : ℕ) (sound : Sound b vars fresh room) (c : List ℤ) (known : all_named vars c ≡ true) (n : Meaning) (split : Split b c (vars + fresh) n) where
  pub split_only : (left : ℕ) (row : Row) → (over n vars left).allowed row → (over b vars room).allowed row × (some_true row c ≡ true)
  split_only left row p =
      let q = split.only p.0 p.2 in
      ((p.0, p.1, q.0), some_true_agree vars row p.0 p.1 c known ∙ threes_some p.0 c (vars + fresh) q.1)

  pub split_each : (left : ℕ) (row : Row) → (over b vars room).allowed row → some_true row c ≡ true → (over n vars left).allowed row
  split_each left row p t =
      let s = p.0 in
      let here = sym (some_true_agree vars row s p.1 c known) ∙ t in
      let found = some_threes vars s c (vars + fresh) (omega arith) known here in
      let r = found.0 in
      (r, agree_through vars (vars + fresh) row s r (omega arith) p.1 found.1, split.each r (sound.free s r found.1 p.2) found.2)

  pub split_free : (x y : Row) → Agree (vars + fresh + (length c - 3)) x y → n.allowed x → n.allowed y
  split_free x y g p =
      let q = split.only x p in
      let gf : Agree (vars + fresh) x y = λ v low high. g v low (omega (arith, high)) in
      split.each y (sound.free x y gf q.0) (sym (threes_agree vars x y c (vars + fresh) (omega arith) known g) ∙ q.1)

  pub split_sound : (used left : ℕ) → used ≡ fresh + (length c - 3) → left + price (length c) ≡ room → Sound n vars used left
  split_sound used left e f =
      let same = ap full_over split.sizes in
      let v = split.vars in
      let r = split.room in
      let u = sound.in_use in
      let k = sound.roomy in
      let t = sound.enough in
      let paid = fresh_paid (length c) in
      record {
        in_use = omega arith;
        roomy = omega arith;
        enough = omega arith;
        free = λ x y g. split_free x y (λ w low high. g w low (omega (arith, high, e)));
      }
