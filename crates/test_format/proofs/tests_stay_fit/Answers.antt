use Rattle.test_format.proofs.StayFit.{tests_stay_fit}
use Rattle.test_format.proofs.tests_stay_fit.Goals as goal

pub returns : goal.returns
returns c = tests_stay_fit
