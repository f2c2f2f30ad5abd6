use Rattle.std.proofs.Common.{rules, arith}
use Rattle.drt_evidence.proofs.Blocks.{within}
use Rattle.drt_evidence.proofs.Parts.{two_first, two_second, two_read}
use Rattle.drt_evidence.proofs.Dossiers.{below_parts, dossier_parts}
use Rattle.drt_evidence.proofs.reading.dossiers.read_dossier.Goals as goal

pub read_set-requires : goal.read_set-requires
read_set-requires c = let less = within c.in_ok-policy.ensures.read in let few = c.requires in omega (arith, less, few)

pub returns-in_err-policy-clause-stops : goal.returns-in_err-policy-clause-stops
returns-in_err-policy-clause-stops c = let h = two_first dossier_parts c.in_err-policy.ensures.stops in search rules

pub returns-in_err-set-clause-stops : goal.returns-in_err-set-clause-stops
returns-in_err-set-clause-stops c = let h = two_second dossier_parts c.in_ok-policy.ensures.read (two_first below_parts c.in_err-set.ensures.stops) in search rules

pub returns-in_err-evidence-clause-stops : goal.returns-in_err-evidence-clause-stops
returns-in_err-evidence-clause-stops c = let h = two_second dossier_parts c.in_ok-policy.ensures.read (two_second below_parts c.in_ok-set.ensures.read c.in_err-evidence.ensures.stops) in search rules

pub returns-clause-read : goal.returns-clause-read
returns-clause-read c = let h = two_read dossier_parts c.in_ok-policy.ensures.read (two_read below_parts c.in_ok-set.ensures.read c.in_ok-evidence.ensures.read) in h
