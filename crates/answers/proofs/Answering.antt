-- A solver's answers, one after another, while the lowest set is looked for.
use Rattle.std.proofs.Common.{◌≡◌, ℕ, zero, suc, ◌+◌, ◌-◌, ◌*◌, ◌<◌, ◌≤◌, Bool, true, false, cond, not, List, [], ◌∷◌, ◌++◌, length, get_or, take, set, ℤ, pos, Some, None, Option, sym, refl, ap, ◌∙◌, subst, ⊎_elim, le_of_suc-le-suc, add-zero, add-one, arith, length-append, get_or-set_other, get_or-set_same}
use mathlib.Core.Bool.{false≢true}
use Rattle.std.proofs.lemmas.List.{take_more_set, length-take-le}
use Rattle.std.proofs.lemmas.Bool.{and_from, and_parts, not-true, cases_Bool, cases_eq, cases_lt, le-leb, lt-ltb}
use Rattle.diagnosis.specs.Marked.{marked_from, marked}
use Rattle.diagnosis.proofs.Marked.{marked_same}
use Rattle.std.specs.List.{list_all}
use Rattle.solver.specs.Rows.{Row, holds, named, all_named, all_true}
use Rattle.solver.specs.Meaning.{Meaning, Kept, Solved, Answered}
use Rattle.solver.proofs.Lists.{all_append, all_at}
use Rattle.cnf_theory.specs.Literals.{negative, signed, integer}
use Rattle.cnf_theory.specs.Variables.{count_variable}
use Rattle.answers.specs.Loaded.{SomeOff, NeverOff, OffAnswer, Found}
use Rattle.answers.specs.Assumed.{sign, decided, Tried, Assumed}

pub kept_none : (m : Meaning) → Kept m m
kept_none m = record { sizes = refl; vars = refl; only = λ r a. a; each = λ r a. a; room = refl }

pub kept_both : (m n k : Meaning) → Kept m n → Kept n k → Kept m k
kept_both m n k x y = record { sizes = y.sizes ∙ x.sizes; vars = y.vars ∙ x.vars; only = λ r a. x.only r (y.only r a); each = λ r a. y.each r (x.each r a); room = y.room ∙ x.room }

-- literals by their variables
pub holds_integer : (row : Row) (b : Bool) (v : ℕ) → 1 ≤ v → holds row (integer (signed b v)) ≡ true → row v ≡ b
holds_integer row true v l h = h
holds_integer row false zero l h = absurd (omega arith)
holds_integer row false (suc v) l h = not-true (row (suc v)) h

pub integer_holds : (row : Row) (b : Bool) (v : ℕ) → 1 ≤ v → row v ≡ b → holds row (integer (signed b v)) ≡ true
integer_holds row true v l h = h
integer_holds row false zero l h = absurd (omega arith)
integer_holds row false (suc v) l h = ap not h

pub integer_named : (vars : ℕ) (b : Bool) (v : ℕ) → 1 ≤ v → v ≤ vars → named vars (integer (signed b v)) ≡ true
integer_named vars true v l u = and_from _ _ (lt-ltb 0 v l) (le-leb v vars u)
integer_named vars false zero l u = absurd (omega arith)
integer_named vars false (suc v) l u = and_from _ _ (lt-ltb 0 (suc v) l) (le-leb (suc v) vars u)

sign_integer : (b : Bool) (g : ℕ) → 1 ≤ g → sign (integer (signed b g)) ≡ b
sign_integer true g l = refl
sign_integer false zero l = absurd (omega arith)
sign_integer false (suc g) l = refl

pub off_answer : (m n : Meaning) (v : ℕ) (x : ℤ) (r : Bool) → 1 ≤ v → x ≡ integer (negative v) → Solved m (x ∷ []) r n → OffAnswer m v r n.shown
off_answer m n v x r l e s = go r n.shown (subst (λ (y : ℤ). Answered m (y ∷ []) r n.shown) e s.answered)
  where
    go : (r : Bool) (o : Option Row) → Answered m (integer (negative v) ∷ []) r o → OffAnswer m v r o
    go true None a = absurd a
    go true (Some row) a = (row, a.0, holds_integer row false v l (and_parts _ _ a.1).0)
    go false None a = ((λ row al off. a row al (and_from _ _ (integer_holds row false v l off) refl)), refl)
    go false (Some row) a = absurd a

pub tried : (m n : Meaning) (xs : List ℤ) (x : ℤ) (g : ℕ) (r : Bool) → x ≡ pos g → Solved m (xs ++ (x ∷ [])) r n → Tried m xs g r
tried m n xs x g r e s = go r n.shown (subst (λ (y : ℤ). Answered m (xs ++ (y ∷ [])) r n.shown) e s.answered)
  where
    go : (r : Bool) (o : Option Row) → Answered m (xs ++ (pos g ∷ [])) r o → Tried m xs g r
    go true None a = absurd a
    go true (Some row) a = let q = and_parts _ _ (sym (all_append (holds row) xs (pos g ∷ [])) ∙ a.1) in (row, a.0, q.0, (and_parts _ _ q.1).0)
    go false None a = λ row al t on. a row al (all_append (holds row) xs (pos g ∷ []) ∙ and_from _ _ t (and_from _ _ on refl))
    go false (Some row) a = absurd a

pub all_each : {X : Type 0} (p : X → Bool) (xs : List X) (d : X) → ((i : ℕ) → i < length xs → p (get_or xs i d) ≡ true) → list_all p xs ≡ true
all_each p [] d h = refl
all_each p (x ∷ xs) d h = and_from _ _ (h 0 (omega arith)) (all_each p xs d (λ i l. h (suc i) (omega arith)))

get_d_take : (xs : List ℤ) (n i : ℕ) (d : ℤ) → i < n → get_or (take n xs) i d ≡ get_or xs i d
get_d_take [] zero i d l = absurd (omega arith)
get_d_take [] (suc n) i d l = refl
get_d_take (x ∷ xs) zero i d l = absurd (omega arith)
get_d_take (x ∷ xs) (suc n) zero d l = refl
get_d_take (x ∷ xs) (suc n) (suc i) d l = get_d_take xs n i d (le_of_suc-le-suc l)

module _ (m : Meaning) (v : ℕ) (v1 : 1 ≤ v) where
  -- a place of the literals assumed
  place : (P : ℤ → Type 0) (n : ℕ) (xs : List ℤ) → get_or xs 0 (pos 0) ≡ integer (negative v) → ((i : ℕ) → 1 ≤ i → i ≤ n → get_or xs i (pos 0) ≡ integer (signed (decided xs i) i)) → P (integer (negative v)) → ((i : ℕ) → 1 ≤ i → i ≤ n → P (integer (signed (decided xs i) i))) → (i : ℕ) → i ≤ n → P (get_or xs i (pos 0))
  place P n xs o s p q zero l = subst P (sym o) p
  place P n xs o s p q (suc i) l = subst P (sym (s (suc i) (omega arith) l)) (q (suc i) (omega arith) l)

  pub assumed_named : (n vars : ℕ) (xs : List ℤ) → Assumed m v n xs → n < length xs → v ≤ vars → n ≤ vars → all_named vars (take (n + 1) xs) ≡ true
  assumed_named n vars xs st l vv nv = all_each (named vars) (take (n + 1) xs) (pos 0) (λ i lt. let u : i < n + 1 = subst (λ (k : ℕ). i < k) (length-take-le (n + 1) xs (omega arith)) lt in subst (λ (x : ℤ). named vars x ≡ true) (sym (get_d_take xs (n + 1) i (pos 0) u)) (place (λ x. named vars x ≡ true) n xs st.off st.signs (integer_named vars false v v1 vv) (λ j a b. integer_named vars (decided xs j) j a (omega arith)) i (omega arith)))

  -- a row with all of them true
  pub agreeing : (n : ℕ) (xs : List ℤ) → Assumed m v n xs → n < length xs → (row : Row) → row v ≡ false → ((i : ℕ) → 1 ≤ i → i ≤ n → row i ≡ decided xs i) → all_true row (take (n + 1) xs) ≡ true
  agreeing n xs st l row off ag = all_each (holds row) (take (n + 1) xs) (pos 0) (λ i lt. let u : i < n + 1 = subst (λ (k : ℕ). i < k) (length-take-le (n + 1) xs (omega arith)) lt in subst (λ (x : ℤ). holds row x ≡ true) (sym (get_d_take xs (n + 1) i (pos 0) u)) (place (λ x. holds row x ≡ true) n xs st.off st.signs (integer_holds row false v v1 off) (λ j a b. integer_holds row (decided xs j) j a (ag j a b)) i (omega arith)))

  pub agreed : (n : ℕ) (xs : List ℤ) → Assumed m v n xs → n < length xs → (row : Row) → all_true row (take (n + 1) xs) ≡ true → (row v ≡ false) × ((i : ℕ) → 1 ≤ i → i ≤ n → row i ≡ decided xs i)
  agreed n xs st l row h = (holds_integer row false v v1 (subst (λ (x : ℤ). holds row x ≡ true) st.off (at 0 (omega arith))), λ i a b. holds_integer row (decided xs i) i a (subst (λ (x : ℤ). holds row x ≡ true) (st.signs i a b) (at i b)))
    where
      at : (i : ℕ) → i ≤ n → holds row (get_or xs i (pos 0)) ≡ true
      at i u = subst (λ (x : ℤ). holds row x ≡ true) (get_d_take xs (n + 1) i (pos 0) (omega arith)) (all_at (holds row) (take (n + 1) xs) i (pos 0) (subst (λ (k : ℕ). i < k) (sym (length-take-le (n + 1) xs (omega arith))) (omega arith)) h)

  pub assumed_none : (xs : List ℤ) → get_or xs 0 (pos 0) ≡ integer (negative v) → SomeOff m v → Assumed m v 0 xs
  assumed_none xs o s = record { off = o; signs = λ i a b. absurd (omega arith); row = (s.0, s.1, s.2, λ i a b. absurd (omega arith)); low = λ g a b. absurd (omega arith) }

  pub decided_same : (xs : List ℤ) (g : ℕ) (x : ℤ) (i : ℕ) → (i ≡ g → ⊥) → decided (set xs g x) i ≡ decided xs i
  decided_same xs g x i ne = ap sign (get_or-set_other xs g i x (pos 0) ne)

  pub assumed_more : (n g : ℕ) (xs : List ℤ) (b : Bool) → g ≡ n + 1 → g < length xs → Assumed m v n xs → Tried m (take g xs) g b → Assumed m v g (set xs g (integer (signed b g)))
  assumed_more n g xs b e l st t = record {
    off = get_or-set_other xs g 0 (integer (signed b g)) (pos 0) (λ q. omega arith) ∙ st.off;
    signs = λ i a u. ⊎_elim (λ same. subst (λ (j : ℕ). get_or ys j (pos 0) ≡ integer (signed (decided ys j) j)) (sym same) (at_g ∙ ap (λ c. integer (signed c g)) (sym dec-g))) (λ other. get_or-set_other xs g i (integer (signed b g)) (pos 0) other ∙ st.signs i a (below i u other) ∙ ap (λ c. integer (signed c i)) (sym (decided_same xs g _ i other))) (cases_eq i g);
    row = rows b refl t;
    low = λ i a u d row al off ag on. ⊎_elim
        (λ same. lows b refl t row al off (λ j p q. ag j p (omega arith) ∙ decided_same xs g _ j (λ z. omega arith)) (sym dec-g ∙ ap (decided ys) (sym same) ∙ d) (subst (λ (j : ℕ). row j ≡ true) same on))
        (λ other. st.low i a (below i u other) (sym (decided_same xs g _ i other) ∙ d) row al off (λ j p q. ag j p q ∙ decided_same xs g _ j (λ z. omega (arith, below i u other))) on)
        (cases_eq i g);
  }
    where
      ys : List ℤ
      ys = set xs g (integer (signed b g))

      at_g : get_or (set xs g (integer (signed b g))) g (pos 0) ≡ integer (signed b g)
      at_g = get_or-set_same xs g (integer (signed b g)) (pos 0) l

      dec-g : decided (set xs g (integer (signed b g))) g ≡ b
      dec-g = ap sign at_g ∙ sign_integer b g (omega arith)

      below : (i : ℕ) → i ≤ g → (i ≡ g → ⊥) → i ≤ n
      below i u ne = ⊎_elim (λ (lt : n < i). absurd (ne (omega arith))) (λ le. le) (cases_lt n i)

      front : Tried m (take g xs) g b → Tried m (take (n + 1) xs) g b
      front = subst (λ (k : ℕ). Tried m (take k xs) g b) e

      rows : (c : Bool) → b ≡ c → Tried m (take g xs) g b → (row : Row) × m.allowed row × (row v ≡ false) × ((i : ℕ) → 1 ≤ i → i ≤ g → row i ≡ decided (set xs g (integer (signed b g))) i)
      rows true q t =
          let (row, al, h, on) = subst (λ (c : Bool). Tried m (take (n + 1) xs) g c) q (front t) in
          let (off, ag) = agreed n xs st (omega arith) row h in
          (row, al, off, λ i a u. ⊎_elim (λ same. ap row same ∙ on ∙ sym q ∙ sym dec-g ∙ ap (decided (set xs g (integer (signed b g)))) (sym same)) (λ other. ag i a (below i u other) ∙ sym (decided_same xs g _ i other)) (cases_eq i g))
      rows false q t =
          let (row, al, off, ag) = st.row in
          let no-mark = subst (λ (c : Bool). Tried m (take (n + 1) xs) g c) q (front t) in
          let clear : row g ≡ false = ⊎_elim (λ on. absurd (no-mark row al (agreeing n xs st (omega arith) row off ag) on)) (λ f. f) (cases_Bool (row g)) in
          (row, al, off, λ i a u. ⊎_elim (λ same. ap row same ∙ clear ∙ sym q ∙ sym dec-g ∙ ap (decided (set xs g (integer (signed b g)))) (sym same)) (λ other. ag i a (below i u other) ∙ sym (decided_same xs g _ i other)) (cases_eq i g))

      lows : (c : Bool) → b ≡ c → Tried m (take g xs) g b → (row : Row) → m.allowed row → row v ≡ false → ((j : ℕ) → 1 ≤ j → j ≤ n → row j ≡ decided xs j) → b ≡ false → row g ≡ true → ⊥
      lows true q t row al off ag f on = false≢true (sym f ∙ q)
      lows false q t row al off ag f on = subst (λ (c : Bool). Tried m (take (n + 1) xs) g c) q (front t) row al (agreeing n xs st (omega arith) row off ag) on

-- marks, one gate more
pub marked_split : (d : ℕ → Bool) (a n k : ℕ) → marked_from d a (n + k) ≡ marked_from d a n ++ marked_from d (a + n) k
marked_split d a zero k = ap (marked_from d a) (let e : 0 + k ≡ k = omega arith in e) ∙ ap (λ b. marked_from d b k) (sym (add-zero a))
marked_split d a (suc n) k = ap (marked_from d a) (let e : suc n + k ≡ suc (n + k) = omega arith in e) ∙ go (marked_split d (suc a) n k ∙ ap (λ b. marked_from d (suc a) n ++ marked_from d b k) (let e : suc a + n ≡ a + suc n = omega arith in e)) (d a)
  where
    go : marked_from d (suc a) (n + k) ≡ marked_from d (suc a) n ++ marked_from d (a + suc n) k → (b : Bool) → cond b (a ∷ marked_from d (suc a) (n + k)) (marked_from d (suc a) (n + k)) ≡ cond b (a ∷ marked_from d (suc a) n) (marked_from d (suc a) n) ++ marked_from d (a + suc n) k
    go rest true = ap (λ r. a ∷ r) rest
    go rest false = rest

-- the code's steps
pub named_more : (vars g : ℕ) (xs : List ℤ) (x : ℤ) → g < length xs → 1 ≤ g → g ≤ vars → x ≡ pos g → all_named vars (take g xs) ≡ true → all_named vars (take (g + 1) (set xs g x)) ≡ true
named_more vars g xs x l a b e h = ap (all_named vars) (take_more_set xs g x l) ∙ all_append (named vars) (take g xs) (x ∷ []) ∙ and_from _ _ h (and_from _ _ (ap (named vars) e ∙ integer_named vars true g a b) refl)

pub tried_more : (m n : Meaning) (xs : List ℤ) (x : ℤ) (g : ℕ) (r : Bool) → g < length xs → x ≡ pos g → Solved m (take (g + 1) (set xs g x)) r n → Tried m (take g xs) g r
tried_more m n xs x g r l e s = tried m n (take g xs) x g r e (subst (λ (ys : List ℤ). Solved m ys r n) (take_more_set xs g x l) s)

pub last_count : (G N k : ℕ) → 1 ≤ G → count_variable G N (suc (G - 1)) (k + 1) ≡ count_variable G N G (suc k)
last_count zero N k h = absurd (omega arith)
last_count (suc G) N k h = let e : suc G - 1 ≡ G = omega arith in ap (λ n. suc G + (n * suc N + (k + 1))) e ∙ ap (λ n. suc G + (G * suc N + n)) (add-one k)

pub marked_more : (xs : List ℤ) (n g : ℕ) (x : ℤ) → g ≡ n + 1 → marked_from (decided (set xs g x)) 1 g ≡ marked_from (decided xs) 1 n ++ cond (decided (set xs g x) g) (g ∷ []) []
marked_more xs n g x e =
    let d = decided (set xs g x) in
    ap (marked_from d 1) e ∙ marked_split d 1 n 1 ∙ ap (λ l. l ++ marked_from d (1 + n) 1) (marked_same d (decided xs) 1 n (λ i p q. ap sign (get_or-set_other xs g i x (pos 0) (λ z. omega arith)))) ∙ ap (λ b. marked_from (decided xs) 1 n ++ marked_from d b 1) (let q : 1 + n ≡ g = omega arith in q)

pub tried_kept : (m n : Meaning) (xs : List ℤ) (g : ℕ) (b : Bool) → Kept m n → Tried n xs g b → Tried m xs g b
tried_kept m n xs g true k t = (t.0, k.only t.0 t.1, t.2, t.3)
tried_kept m n xs g false k t = λ row al h on. t row (k.each row al) h on

pub untried_kept : (m n : Meaning) (xs : List ℤ) (g : ℕ) → Kept m n → Tried m xs g false → Tried n xs g false
untried_kept m n xs g k t = λ row al h on. t row (k.only row al) h on

pub never_kept : (m n : Meaning) (v : ℕ) → Kept m n → NeverOff n v → NeverOff m v
never_kept m n v k t row al off = t row (k.each row al) off

pub some_kept : (m n : Meaning) (v : ℕ) → Kept m n → SomeOff n v → SomeOff m v
some_kept m n v k t = (t.0, k.only t.0 t.1, t.2)

pub marked_step : (xs : List ℤ) (n g : ℕ) (b : Bool) → g ≡ n + 1 → g < length xs → marked_from (decided (set xs g (integer (signed b g)))) 1 g ≡ marked_from (decided xs) 1 n ++ cond b (g ∷ []) []
marked_step xs n g b e l = marked_more xs n g (integer (signed b g)) e ∙ ap (λ c. marked_from (decided xs) 1 n ++ cond c (g ∷ []) []) (ap sign (get_or-set_same xs g (integer (signed b g)) (pos 0) l) ∙ sign_integer b g (omega arith))

-- ── no more marks than a row with the count off can have ──
module _ (m : Meaning) (v G K : ℕ) (few : (row : Row) → m.allowed row → row v ≡ false → length (marked row G) ≤ K) where
  -- a row that agrees with the marks of the first gates has at least so many
  prefix_few : (row : Row) (d : ℕ → Bool) (g : ℕ) → g ≤ G → ((i : ℕ) → 1 ≤ i → i ≤ g → row i ≡ d i) → length (marked_from d 1 g) ≤ length (marked row G)
  prefix_few row d g l ag =
      let e : length (marked_from row 1 G) ≡ length (marked_from row 1 g ++ marked_from row (1 + g) (G - g)) = ap length (ap (marked_from row 1) (let q : G ≡ g + (G - g) = omega arith in q) ∙ marked_split row 1 g (G - g)) in
      let f = length-append (marked_from row 1 g) (marked_from row (1 + g) (G - g)) in
      let same : length (marked_from row 1 g) ≡ length (marked_from d 1 g) = ap length (marked_same row d 1 g (λ i a b. ag i a (omega arith))) in
      omega arith

  pub room_left : (n g : ℕ) (xs : List ℤ) → g ≡ n + 1 → g ≤ G → g < length xs → Assumed m v g (set xs g (integer (signed true g))) → length (marked_from (decided xs) 1 n) < K
  room_left n g xs e l u st =
      let (row, al, off, ag) = st.row in
      let most = few row al off in
      let less = prefix_few row (decided (set xs g (integer (signed true g)))) g l ag in
      let p = ap length (marked_step xs n g true e u) in
      let f = length-append (marked_from (decided xs) 1 n) (g ∷ []) in
      omega arith

  -- with so many marks no row marks one more gate
  pub full_tried : 1 ≤ v → (n g : ℕ) (xs : List ℤ) → g ≡ n + 1 → g ≤ G → g < length xs → Assumed m v n xs → K ≤ length (marked_from (decided xs) 1 n) → Tried m (take g xs) g false
  full_tried v1 n g xs e l u st full row al h on =
      let (off, ag) = agreed m v v1 n xs st (omega arith) row (subst (λ (k : ℕ). all_true row (take k xs) ≡ true) e h) in
      let most = few row al off in
      let less = prefix_few row row g l (λ i a b. refl) in
      let split : length (marked_from row 1 g) ≡ length (marked_from row 1 n ++ marked_from row (1 + n) 1) = ap length (ap (marked_from row 1) e ∙ marked_split row 1 n 1) in
      let f = length-append (marked_from row 1 n) (marked_from row (1 + n) 1) in
      let one : length (marked_from row (1 + n) 1) ≡ 1 = ap (λ b. length (cond b ((1 + n) ∷ []) [])) (ap row (let q : 1 + n ≡ g = omega arith in q) ∙ on) in
      let same : length (marked_from row 1 n) ≡ length (marked_from (decided xs) 1 n) = ap length (marked_same row (decided xs) 1 n (λ i a b. ag i a (omega arith))) in
      omega arith

pub found_all : (m n k : Meaning) (v G : ℕ) (xs : List ℤ) (S : List ℕ) (r : Bool) → 1 ≤ v → Kept m n → Assumed m v G xs → G < length xs → S ≡ marked_from (decided xs) 1 G → Solved n (take (G + 1) xs) r k → Found m v G S k
found_all m n k v G xs S r v1 ke st l e s = go r k.shown refl s.answered
  where
    go : (r : Bool) (o : Option Row) → k.shown ≡ o → Answered n (take (G + 1) xs) r o → Found m v G S k
    go true None q a = absurd a
    go true (Some row) q a =
        let (off, ag) = agreed m v v1 G xs st l row a.1 in
        record {
          row = row;
          shown = q;
          allowed = ke.only row a.0;
          off = off;
          marks = marked_same row (decided xs) 1 G (λ i p u. ag i p (omega arith)) ∙ sym e;
          low = λ g p u d σ al so sa on. st.low g p u (sym (ag g p u) ∙ d) σ al so (λ i x y. sa i x y ∙ ag i x (omega arith)) on;
        }
    go false None q a = let (row, al, off, ag) = st.row in absurd (a row (ke.each row al) (agreeing m v v1 G xs st l row off ag))
    go false (Some row) q a = absurd a

pub last_below : (G N k : ℕ) → k ≤ N → count_variable G N G (suc k) ≤ count_variable G N G (suc N)
last_below zero N k l = omega arith
last_below (suc G) N k l = omega arith

pub found_kept : (m n k : Meaning) (v G : ℕ) (S : List ℕ) → Kept m n → Found n v G S k → Found m v G S k
found_kept m n k v G S ke f = record { row = f.row; shown = f.shown; allowed = ke.only f.row f.allowed; off = f.off; marks = f.marks; low = λ g a b d σ al so ag on. f.low g a b d σ (ke.each σ al) so ag on }
