-- The command line is one of which `clap` says what it makes of any words.
use Rattle.std.proofs.Common.{◌≡◌, ◌⊎◌, ◌∙◌, List, [], true, ap, refl, inl, inr, sym}
use Rattle.std.specs.Prelude.{Option}
use Rattle.clap.proofs.OnLiterals.{clap_on_literals}
use Rattle.clap.specs.Kinds.{IsAmong}
use Rattle.clap.specs.Simple.{App, is_simple, subcommand_of}
use Rattle.clap.specs.Faults.{fault_of, is_simple_and_free}
use Rattle.clap.specs.Walk.{Row, Text}
use Rattle.clap.specs.declared.error.kind.ErrorKind.{ErrorKind}
use Rattle.drt_words.specs.CommandLine.{drt_app}

simple : is_simple drt_app ≡ true
unfolding clap_on_literals
simple = refl

free : is_simple_and_free drt_app ≡ true
unfolding clap_on_literals
free = refl

module _ (app : App) (is : app ≡ drt_app) (words : List Text) where
  pub taken : (is_simple_and_free app ≡ true → fault_of app words ≡ []) → fault_of drt_app words ≡ []
  taken fine = ap (λ a. fault_of a words) (sym is) ∙ fine (ap is_simple_and_free is ∙ free)

  pub finds : (rows : Option (Text × List Row)) {P : Type 0} → (is_simple app ≡ true → P × (rows ≡ subcommand_of app words)) → rows ≡ subcommand_of drt_app words
  finds rows found = (found (ap is_simple is ∙ simple)).1 ∙ ap (λ a. subcommand_of a words) is

  pub refuses : (k memory : ErrorKind) → (is_simple_and_free app ≡ true → (k ≡ memory) ⊎ IsAmong k (fault_of app words)) → (k ≡ memory → ⊥) → fault_of drt_app words ≡ [] → ⊥
  refuses k memory fails other none = go (fails (ap is_simple_and_free is ∙ free))
    where
      go : (k ≡ memory) ⊎ IsAmong k (fault_of app words) → ⊥
      go (inl e) = other e
      go (inr among) = rw (ap (λ a. fault_of a words) is ∙ none) at among
