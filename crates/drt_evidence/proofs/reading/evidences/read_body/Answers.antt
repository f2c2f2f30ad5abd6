use Rattle.std.proofs.Common.{rules}
use Rattle.drt_evidence.proofs.Parts.{one_stop, one_read}
use Rattle.drt_evidence.proofs.Records.{edf_no_part, fixed_no_part, one_part, undecided_read, kind_read, kind_stopped}
use Rattle.drt_evidence.proofs.reading.evidences.read_body.Goals as goal

pub returns-in_err-releases-in-EdfNo-clause-stops : goal.returns-in_err-releases-in-EdfNo-clause-stops
returns-in_err-releases-in-EdfNo-clause-stops c = let h = kind_stopped c.in-EdfNo.is (one_stop edf_no_part c.in_err-releases-in-EdfNo.ensures.stops) in search rules

pub returns-in_ok-releases-in-EdfNo-clause-read : goal.returns-in_ok-releases-in-EdfNo-clause-read
returns-in_ok-releases-in-EdfNo-clause-read c = kind_read c.in-EdfNo.is (one_read edf_no_part c.in_ok-releases-in-EdfNo.ensures.read)

pub returns-in_err-releases-in-FixedNo-clause-stops : goal.returns-in_err-releases-in-FixedNo-clause-stops
returns-in_err-releases-in-FixedNo-clause-stops c = let h = kind_stopped c.in-FixedNo.is (one_stop fixed_no_part c.in_err-releases-in-FixedNo.ensures.stops) in search rules

pub returns-in_ok-releases-in-FixedNo-clause-read : goal.returns-in_ok-releases-in-FixedNo-clause-read
returns-in_ok-releases-in-FixedNo-clause-read c = kind_read c.in-FixedNo.is (one_read fixed_no_part c.in_ok-releases-in-FixedNo.ensures.read)

pub returns-in_err-ratios-in-UtilisationOne-clause-stops : goal.returns-in_err-ratios-in-UtilisationOne-clause-stops
returns-in_err-ratios-in-UtilisationOne-clause-stops c = let h = kind_stopped c.in-UtilisationOne.is (one_stop one_part c.in_err-ratios-in-UtilisationOne.ensures.stops) in search rules

pub returns-in_ok-ratios-in-UtilisationOne-clause-read : goal.returns-in_ok-ratios-in-UtilisationOne-clause-read
returns-in_ok-ratios-in-UtilisationOne-clause-read c = kind_read c.in-UtilisationOne.is (one_read one_part c.in_ok-ratios-in-UtilisationOne.ensures.read)

pub returns-in-EdfYes-clause-read : goal.returns-in-EdfYes-clause-read
returns-in-EdfYes-clause-read c = rw c.in-EdfYes.is c.read_edf_yes.ensures.read

pub returns-in-EdfYes-clause-stops : goal.returns-in-EdfYes-clause-stops
returns-in-EdfYes-clause-stops c = rw c.in-EdfYes.is c.read_edf_yes.ensures.stops

pub returns-in-FixedYes-clause-read : goal.returns-in-FixedYes-clause-read
returns-in-FixedYes-clause-read c = rw c.in-FixedYes.is c.read_fixed_yes.ensures.read

pub returns-in-FixedYes-clause-stops : goal.returns-in-FixedYes-clause-stops
returns-in-FixedYes-clause-stops c = rw c.in-FixedYes.is c.read_fixed_yes.ensures.stops

pub returns-in-Undecided-clause-read : goal.returns-in-Undecided-clause-read
returns-in-Undecided-clause-read c = kind_read c.in-Undecided.is (undecided_read c.args.text.now.rest.now)

pub returns-in-FixedStates-clause-read : goal.returns-in-FixedStates-clause-read
returns-in-FixedStates-clause-read c = rw c.in-FixedStates.is c.read_fixed_states.ensures.read

pub returns-in-FixedStates-clause-stops : goal.returns-in-FixedStates-clause-stops
returns-in-FixedStates-clause-stops c = rw c.in-FixedStates.is c.read_fixed_states.ensures.stops
