-- Runs that are not lawful: in each, what the law asks of the last event is not so.
use Rattle.std.proofs.Common.{◌≡◌, ℕ, true, false, [], ◌∷◌, ◌++◌, Some, None, refl, inl, inr, arith}
use mathlib.Core.Bool.{false≢true}
use Rattle.test_format.specs.Packing.{bits, unpack}
use Rattle.test_format.specs.Records.{ones, filled}
use Rattle.test_format.specs.Amending.{replaced}
use Rattle.run_law.specs.Calls.{Strike, Next, Readings, Gave, Told}
use Rattle.run_law.specs.Law.{Lawful}
use Rattle.run_law.specs.WrongRuns.{roomy, cramped, done, loaded, recorded, unmeasured, opened, gives, says_end, tells, no_to, refused_by, begun, WrongRunsUnlawful}
use Rattle.run_law.proofs.Histories.{lawful_at}
use Rattle.run_law.proofs.Runs.{test_p, given_begin, all_given_at_end, refused_at_last}

-- ── the sets given do not begin the full list ──
gives_first_again : Lawful (begun ++ gives (1 ∷ []) ∷ gives (1 ∷ []) ∷ []) → ⊥
unfolding bits unpack ones filled
gives_first_again lawful =
    let (rest, begins) = given_begin (begun ++ gives (1 ∷ []) ∷ []) (gives (1 ∷ [])) lawful in
    let list : (1 ∷ []) ∷ (1 ∷ []) ∷ rest ≡ (1 ∷ []) ∷ (2 ∷ 3 ∷ []) ∷ [] = begins in
    let same : ◌≡◌ {A = ℕ} 1 2 = cc in
    omega arith

bars_only_the_same : Lawful (begun ++ gives (1 ∷ []) ∷ gives (1 ∷ 2 ∷ []) ∷ []) → ⊥
unfolding bits unpack ones filled
bars_only_the_same lawful =
    let (rest, begins) = given_begin (begun ++ gives (1 ∷ []) ∷ []) (gives (1 ∷ 2 ∷ [])) lawful in
    let list : (1 ∷ []) ∷ (1 ∷ 2 ∷ []) ∷ rest ≡ (1 ∷ []) ∷ (2 ∷ 3 ∷ []) ∷ [] = begins in
    let same : ◌≡◌ {A = ℕ} 1 2 = cc in
    omega arith

idle_amendment : Lawful (loaded ∷ recorded ∷ unmeasured ∷ opened ∷ gives (1 ∷ []) ∷ gives (2 ∷ 3 ∷ []) ∷ []) → ⊥
unfolding bits unpack ones filled replaced
idle_amendment lawful =
    let (rest, begins) = given_begin (loaded ∷ recorded ∷ unmeasured ∷ opened ∷ gives (1 ∷ []) ∷ []) (gives (2 ∷ 3 ∷ [])) lawful in
    let list : (1 ∷ []) ∷ (2 ∷ 3 ∷ []) ∷ rest ≡ (1 ∷ []) ∷ (3 ∷ []) ∷ [] = begins in
    let same : ◌≡◌ {A = ℕ} 2 3 = cc in
    omega arith

idle_strike : Lawful (loaded ∷ recorded ∷ done Strike ∷ opened ∷ gives (1 ∷ []) ∷ []) → ⊥
unfolding bits unpack ones filled
idle_strike lawful =
    let (rest, begins) = given_begin (loaded ∷ recorded ∷ done Strike ∷ opened ∷ []) (gives (1 ∷ [])) lawful in
    let list : (1 ∷ []) ∷ rest ≡ [] ∷ [] = begins in
    let same : ◌≡◌ {A = ℕ} 0 1 = cc in
    omega arith

sets_of_exactly_n : Lawful (begun ++ gives (2 ∷ 3 ∷ []) ∷ []) → ⊥
unfolding bits unpack ones filled
sets_of_exactly_n lawful =
    let (rest, begins) = given_begin begun (gives (2 ∷ 3 ∷ [])) lawful in
    let list : (2 ∷ 3 ∷ []) ∷ rest ≡ (1 ∷ []) ∷ (2 ∷ 3 ∷ []) ∷ [] = begins in
    let same : ◌≡◌ {A = ℕ} 2 1 = cc in
    omega arith

-- ── a set is still to come ──
ends_first : Lawful (begun ++ says_end ∷ []) → ⊥
unfolding bits unpack ones filled
ends_first lawful = all_given_at_end begun roomy refl lawful (1 ∷ []) (inl refl)

ends_early : Lawful (begun ++ gives (1 ∷ []) ∷ says_end ∷ []) → ⊥
unfolding bits unpack ones filled
ends_early lawful =
    elim (all_given_at_end (begun ++ gives (1 ∷ []) ∷ []) roomy refl lawful (2 ∷ 3 ∷ []) (inr (inl refl))) [
      | inl e ↦ let same : ◌≡◌ {A = ℕ} 2 1 = cc in omega arith
      | inr other ↦ other
    ]

-- ── no question says no ──
refuses_roomy : Lawful (begun ++ refused_by 18 (Next roomy) ∷ []) → ⊥
unfolding bits unpack ones filled
refuses_roomy lawful =
    let said : None ≡ Some (no_to 18) = ((lawful_at begun [] (refused_by 18 (Next roomy)) lawful).refused (no_to 18)).0 refl in
    let same : ◌≡◌ {A = ℕ} 0 1 = cc in
    omega arith

-- ── a question says no ──
takes_cramped : Lawful (begun ++ record { call = Next cramped; answer = Gave (1 ∷ []) } ∷ []) → ⊥
unfolding bits unpack ones filled
takes_cramped lawful =
    let said = refused_at_last begun (Next cramped) (Gave (1 ∷ [])) (no_to 18) refl lawful in
    let same : ◌≡◌ {A = ℕ} 0 1 = cc in
    omega arith

tells_after_end : Lawful (begun ++ gives (1 ∷ []) ∷ gives (2 ∷ 3 ∷ []) ∷ says_end ∷ tells 2 ∷ []) → ⊥
unfolding bits unpack ones filled
tells_after_end lawful =
    let said = refused_at_last (begun ++ gives (1 ∷ []) ∷ gives (2 ∷ 3 ∷ []) ∷ says_end ∷ []) (Readings 0) (Told 2) (no_to 19) refl lawful in
    let same : ◌≡◌ {A = ℕ} 0 1 = cc in
    omega arith

-- ── the reading does not bring out the test ──
takes_one_reading_for_another : Lawful (begun ++ gives (1 ∷ []) ∷ tells 1 ∷ []) → ⊥
unfolding bits unpack ones filled
takes_one_reading_for_another lawful =
    let brought : false ≡ true = (lawful_at (begun ++ gives (1 ∷ []) ∷ []) [] (tells 1) lawful).brings_out 0 1 refl refl (1 ∷ []) test_p refl refl in
    false≢true brought

pub wrong_runs_unlawful : WrongRunsUnlawful
wrong_runs_unlawful = record {
  ends_first = ends_first;
  gives_first_again = gives_first_again;
  ends_early = ends_early;
  refuses_roomy = refuses_roomy;
  takes_cramped = takes_cramped;
  bars_only_the_same = bars_only_the_same;
  idle_amendment = idle_amendment;
  idle_strike = idle_strike;
  takes_one_reading_for_another = takes_one_reading_for_another;
  tells_after_end = tells_after_end;
  sets_of_exactly_n = sets_of_exactly_n;
}
