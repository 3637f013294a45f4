-- A search from turn to turn: one entry more, back at the last open decision, and the end.
use Rattle.std.proofs.Common.{◌≡◌, ℕ, zero, suc, ◌+◌, ◌-◌, ◌*◌, ◌<◌, ◌≤◌, Bool, true, false, cond, List, length, get_or, set, ℤ, pos, negsuc, neg_ℤ, nat_abs, Some, None, MatchBool, sym, refl, ap, ◌∙◌, subst, not-suc-le-zero, arith, length-set}
use Rattle.solver.specs.Meaning.{Answered}
use lib.Signed.{lt_z}
use Rattle.solver.specs.Rows.{Row, holds}
use Rattle.ternary.specs.declared.TernarySearch.{TernarySearch}
use Rattle.assignment.specs.Stored.{Wanted}
use Rattle.assignment.specs.Assignment.{row_of, Extends, Free}
use Rattle.assignment.specs.Trail.{Recorded, Before, Blocked, Closed, NoOpen, digit, weight}
use Rattle.ternary.specs.Stands.{Sound, stands}
use Rattle.ternary.specs.Search.{Same, Sought, Backtracked, Turn, values_of, trail_of, decisions_of}
use Rattle.assignment.proofs.Recorded.{recorded_none, recorded_room, recorded_assign, extends}
use Rattle.assignment.proofs.Backtracking.{closed_assign, closed_fewer, walked_to, flipped}
use Rattle.assignment.proofs.Weights.{assign_less, flip_less}

pub same_refl : (s : TernarySearch) → Same s s
same_refl s = record { clauses = refl; limit = refl; vars = refl; count = refl; room = refl }

pub same_trans : (r s t : TernarySearch) → Same r s → Same s t → Same r t
same_trans r s t a b = record {
  clauses = b.clauses ∙ a.clauses;
  limit = b.limit ∙ a.limit;
  vars = b.vars ∙ a.vars;
  count = b.count ∙ a.count;
  room = b.room ∙ a.room;
}

pub same_sym : (s t : TernarySearch) → Same s t → Same t s
same_sym s t a = record { clauses = sym a.clauses; limit = sym a.limit; vars = sym a.vars; count = sym a.count; room = sym a.room }

pub sound_same : (s t : TernarySearch) → Sound s → Same s t → length (values_of t) ≡ length (values_of s) → length (trail_of t) ≡ length (trail_of s) → length (decisions_of t) ≡ length (decisions_of s) → Sound t
sound_same s t g e v l m = record {
  clauses_len = ap length e.clauses ∙ g.clauses_len ∙ ap (λ n. 3 * n) (sym e.limit);
  values_len = v ∙ g.values_len ∙ sym e.limit;
  trail_len = l ∙ g.trail_len ∙ sym e.limit;
  decisions_len = m ∙ g.decisions_len ∙ sym e.limit;
  counts = omega (arith, g.counts, e.count, e.room, e.limit);
  in_range = omega (arith, g.in_range, e.vars, e.limit);
  small = omega (arith, g.small, e.limit);
  literals = λ k l. subst (λ (xs : List ℤ). nat_abs (get_or xs k (pos 0)) ≤ t.vars) (sym e.clauses) (let h = g.literals k (omega (arith, l, e.count)) in omega (arith, h, e.vars));
}

pub sought_same : (s t : TernarySearch) (a : List ℤ) → Same s t → (row : Row) → Sought s a row → Sought t a row
sought_same s t a e row h = subst (λ (xs : List ℤ). Wanted xs t.count a row) (sym e.clauses) (subst (λ (n : ℕ). Wanted s.clauses.now n a row) (sym e.count) h)

abs_neg : (x : ℤ) → nat_abs (neg_ℤ x) ≡ nat_abs x
abs_neg (pos zero) = refl
abs_neg (pos (suc n)) = refl
abs_neg (negsuc n) = refl

module _ (s₀ : TernarySearch) (a : List ℤ) where
  pub turn_first : Sound s₀ → ((k : ℕ) → k < length (values_of s₀) → get_or (values_of s₀) k (pos 0) ≡ pos 0) → Turn s₀ s₀ a 0
  turn_first g z = record {
    sound = g;
    same = same_refl s₀;
    recorded = recorded_none (values_of s₀) (trail_of s₀) z;
    closed = λ k l. absurd (not-suc-le-zero l);
  }

  module _ (s : TernarySearch) (len : ℕ) (turn : Turn s₀ s a len) where
    pub room_trail : (x : ℤ) → Free (values_of s) x → len < length (trail_of s)
    room_trail x f = let r = recorded_room (values_of s) (trail_of s) len x turn.recorded f in omega (arith, r, turn.sound.trail_len, turn.sound.values_len)

    pub room_decisions : (x : ℤ) → Free (values_of s) x → len < length (decisions_of s)
    room_decisions x f = let r = recorded_room (values_of s) (trail_of s) len x turn.recorded f in omega (arith, r, turn.sound.decisions_len, turn.sound.values_len)

    pub turn_within : len ≤ s.limit
    turn_within = let z = turn.recorded.count in omega (arith, z, turn.sound.values_len)

    -- what the values force, the trail forces
    pub forced : (x : ℤ) → ((row : Row) → Extends row (values_of s) → Sought s a row → holds row x ≡ true) → (row : Row) → Sought s₀ a row → Before (trail_of s) len row → holds row x ≡ true
    forced x f row w b = f row (extends (values_of s) (trail_of s) len row turn.recorded b) (sought_same s₀ s a turn.same row w)

    pub blocked : ((row : Row) → Extends row (values_of s) → Sought s a row → ⊥) → Blocked (Sought s₀ a) (trail_of s) len
    blocked f row w b = f row (extends (values_of s) (trail_of s) len row turn.recorded b) (sought_same s₀ s a turn.same row w)

    -- one entry more
    pub turn_assign : (t : TernarySearch) (x o : ℤ) → Free (values_of s) x → (lt_z (pos 0) o ≡ false → (row : Row) → Sought s₀ a row → Before (trail_of s) len row → holds row x ≡ true) → Same s t → values_of t ≡ set (values_of s) (nat_abs x - 1) x → trail_of t ≡ set (trail_of s) len x → decisions_of t ≡ set (decisions_of s) len o → Turn s₀ t a (len + 1)
    turn_assign t x o f new e ev el em = record {
      sound = sound_same s t turn.sound e (ap length ev ∙ length-set (values_of s) (nat_abs x - 1) x) (ap length el ∙ length-set (trail_of s) len x) (ap length em ∙ length-set (decisions_of s) len o);
      same = same_trans s₀ s t turn.same e;
      recorded = subst (λ (ts : List ℤ). Recorded (values_of t) ts (len + 1)) (sym el) (subst (λ (vs : List ℤ). Recorded vs (set (trail_of s) len x) (len + 1)) (sym ev) (recorded_assign (values_of s) (trail_of s) len x turn.recorded f (room_trail x f)));
      closed = subst (λ (ts : List ℤ). Closed (Sought s₀ a) ts (decisions_of t) (len + 1)) (sym el) (subst (λ (os : List ℤ). Closed (Sought s₀ a) (set (trail_of s) len x) os (len + 1)) (sym em) (closed_assign (Sought s₀ a) (trail_of s) (decisions_of s) len x o (room_trail x f) (room_decisions x f) new turn.closed));
    }

    pub turn_assign_less : (os : List ℤ) (x o : ℤ) → Free (values_of s) x → os ≡ set (decisions_of s) len o → weight (digit os (len + 1)) s₀.limit < weight (digit (decisions_of s) len) s₀.limit
    turn_assign_less os x o f em =
        let r = room_decisions x f in
        let c = turn.same.limit in
        let n = turn.sound.decisions_len in
        subst (λ (ks : List ℤ). weight (digit ks (len + 1)) s₀.limit < weight (digit (decisions_of s) len) s₀.limit) (sym em) (assign_less (decisions_of s) len o s₀.limit r (omega (arith, r, c, n)))

    -- all entries closed, and none of the rows sought agrees
    pub turn_none : ((row : Row) → Extends row (values_of s) → Sought s a row → ⊥) → NoOpen (decisions_of s) 0 len → (row : Row) → Sought s₀ a row → ⊥
    turn_none f no_open row w = walked_to (Sought s₀ a) (trail_of s) (decisions_of s) 0 len (omega arith) turn.closed no_open (blocked f) row w (λ j l. absurd (not-suc-le-zero l))

    module _ (u : TernarySearch) (p : ℕ) (e : Same s u) (ev : length (values_of u) ≡ length (values_of s)) (el : trail_of u ≡ trail_of s) (em : decisions_of u ≡ decisions_of s) (stop : Backtracked s len p (values_of u)) where
      -- back at the last open decision
      pub turn_backtrack : Turn s₀ u a p
      turn_backtrack = record {
        sound = sound_same s u turn.sound e ev (ap length el) (ap length em);
        same = same_trans s₀ s u turn.same e;
        recorded = subst (λ (ts : List ℤ). Recorded (values_of u) ts p) (sym el) stop.recorded;
        closed = subst (λ (ts : List ℤ). Closed (Sought s₀ a) ts (decisions_of u) p) (sym el) (subst (λ (os : List ℤ). Closed (Sought s₀ a) (trail_of s) os p) (sym em) (closed_fewer (Sought s₀ a) (trail_of s) (decisions_of s) len p (let l = stop.less in omega (arith, l)) turn.closed));
      }

      pub backtrack-some : 1 ≤ nat_abs (get_or (trail_of s) p (pos 0))
      backtrack-some = turn.recorded.some p stop.less

      pub backtrack-within : nat_abs (get_or (trail_of s) p (pos 0)) ≤ length (values_of s)
      backtrack-within = turn.recorded.within p stop.less

      pub backtrack_free : Free (values_of u) (neg_ℤ (get_or (trail_of s) p (pos 0)))
      backtrack_free =
          let n = abs_neg (get_or (trail_of s) p (pos 0)) in
          record {
            some = rw n backtrack-some;
            within = rw (n, ev) backtrack-within;
            unset = rw n stop.unset;
          }

      -- its negation is forced
      pub backtrack_forced : ((row : Row) → Extends row (values_of s) → Sought s a row → ⊥) → (row : Row) → Sought s₀ a row → Before (trail_of u) p row → holds row (neg_ℤ (get_or (trail_of s) p (pos 0))) ≡ true
      backtrack_forced f row w b =
          let l = stop.less in
          flipped (Sought s₀ a) (trail_of s) p backtrack-some (walked_to (Sought s₀ a) (trail_of s) (decisions_of s) (p + 1) len (omega (arith, l)) turn.closed stop.no_open (blocked f)) row w (subst (λ (ts : List ℤ). Before ts p row) el b)

      pub turn_flip_less : (os : List ℤ) → os ≡ set (decisions_of u) p (pos 0) → weight (digit os (p + 1)) s₀.limit < weight (digit (decisions_of s) len) s₀.limit
      turn_flip_less os eo =
          let k = turn_backtrack.sound.decisions_len in
          let c = turn_backtrack.same.limit in
          let r = room_decisions' in
          subst (λ (ks : List ℤ). weight (digit ks (p + 1)) s₀.limit < weight (digit (decisions_of s) len) s₀.limit) (sym (eo ∙ ap (λ (ks : List ℤ). set ks p (pos 0)) em)) (flip_less (decisions_of s) len p s₀.limit r stop.less (let q = ap length em in omega (arith, r, k, c, q)) stop.open')
        where
          room_decisions' : p < length (decisions_of s)
          room_decisions' =
              let z = turn.recorded.count in
              let l = stop.less in
              omega (arith, z, l, turn.sound.decisions_len, turn.sound.values_len)

-- what a search answers is what a solver is to answer
pub answered : (s : TernarySearch) (a : List ℤ) (vs : List ℤ) (b : Bool) → MatchBool b (Sought s a (row_of vs)) ((row : Row) → Sought s a row → ⊥) → Answered (stands s) a b (cond b (Some (row_of vs)) None)
answered s a vs true h = h
answered s a vs false h = λ row p t. h row (p, t)
