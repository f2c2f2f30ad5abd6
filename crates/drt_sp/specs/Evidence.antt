-- The evidence of fixed priorities, for whoever checks it.
use Rattle.drt_model.specs.Contents.{Contents}
use Rattle.drt_model.specs.declared.jobs.Policy.TheVariants.{Fixed}
use Rattle.drt_claims.specs.Statement.{Statement}
use Rattle.drt_claims.specs.declared.evidence.Evidence.{Evidence}

-- A set under fixed priorities with this evidence.
abbrev pub under_fixed : Contents → Evidence → Statement
under_fixed set evidence = record { policy = Fixed; set = set; evidence = evidence }
