-- What a command is once one more argument, or one more command, is added to it.
use Rattle.std.proofs.Common.{◌≡◌, Bor, ℕ, [], ◌∷◌, Some, false, ap, ◌∙◌, refl}
use Rattle.std.proofs.lemmas.Result.{IfOk-at_ok, IfOk-weaker}
use Rattle.std.specs.Prelude.{IfOk, Ok, Result}
use Rattle.clap.specs.declared.builder.texts.Texts.TheVariants.{One}
use Rattle.clap.specs.Words.{AddsArg, AddsSubcommand, App, Rule, Text, app_of, new_rule, rule_of, with_rule, with_subcommand}
use Rattle.clap.specs.declared.builder.arg.Arg.{Arg}
use Rattle.clap.specs.declared.builder.command.Command.{Command}
use Rattle.clap.specs.declared.builder.ArgAction.TheVariants.{Set}
use Rattle.clap.specs.declared.builder.ValueParser.TheVariants as vp
use Rattle.drt_words.specs.CommandLine.{IsMadeFrom, number_rule}
use Rattle.clap.specs.declared.builder.command.Command.TheViews.{out-Command}

module _ (old new : Command) (a : Arg) (adds : AddsArg old a new) (local : a.global ≡ false) where
  pub adds_rule : (app : App) (rule : Rule) → app_of old ≡ app → rule_of a ≡ rule → app_of new ≡ with_rule app rule
  adds_rule app rule e f = adds.shape local ∙ (ap (λ x. with_rule x (rule_of a)) e ∙ ap (with_rule app) f)

  pub stays_local : (out-Command old).has_globals ≡ false → (out-Command new).has_globals ≡ false
  stays_local e = adds.globals ∙ rw (e, local) refl

-- the command line once a command is added to it that was made as `app` says
module _ {E : Type 0} (top : Command) (made result : Result Command E) (app : App) where
  abbrev HasMade : Command → Type 0
  HasMade new = (command : Command) × (made ≡ Ok command) × AddsSubcommand top command new

  pub adds_command : IfOk made (λ c. app_of c ≡ app) → IfOk made (λ c. (out-Command c).has_globals ≡ false) → IfOk result HasMade
      → IfOk result (λ c. app_of c ≡ with_subcommand (app_of top) app.top)
  adds_command is local added = IfOk-weaker result HasMade (λ c. app_of c ≡ with_subcommand (app_of top) app.top)
      (λ c has. has.2.shape (IfOk-at_ok (λ x. (out-Command x).has_globals ≡ false) has.1 local)
      ∙ ap (λ a. with_subcommand (app_of top) a.top) (IfOk-at_ok (λ x. app_of x ≡ app) has.1 is)) added

-- the command line after one more step, and the one before it is as `app` says
pub stepped : {E : Type 0} (before result : Result Command E) (step : App → App) (app : App) → IfOk before (λ c. app_of c ≡ app)
    → IfOk result (IsMadeFrom before step) → IfOk result (λ c. app_of c ≡ step app)
stepped before result step app is made = IfOk-weaker result (IsMadeFrom before step) (λ c. app_of c ≡ step app)
    (λ c has. has.2 ∙ ap step (IfOk-at_ok (λ x. app_of x ≡ app) has.1 is)) made

-- an option of one number, setting by setting
module _ (name standard : Bor Text) (most : ℕ) (start named acting parsing whole : Arg) (long : named ≡ record start { long = Some name }) (action : acting ≡ record named { action = Some Set })
    (others : parsing ≡ record acting { value_parser = parsing.value_parser }) (parser : parsing.value_parser ≡ Some (vp.Unsigned 1 most))
    (defaults : whole ≡ record parsing { default_vals = One standard }) where
  settings : whole ≡ record start { long = Some name; action = Some Set; value_parser = Some (vp.Unsigned 1 most); default_vals = One standard }
  settings =
      let acts : acting ≡ record start { long = Some name; action = Some Set } = action ∙ ap {A = Arg} (λ a. record a { action = Some Set }) long in
      let parses : parsing ≡ record acting { value_parser = Some (vp.Unsigned 1 most) } = others ∙ ap (λ p. record acting { value_parser = p }) parser in
      defaults ∙ ap {A = Arg} (λ a. record a { default_vals = One standard }) (parses ∙ ap {A = Arg} (λ a. record a { value_parser = Some (vp.Unsigned 1 most) }) acts)

  pub option_rule : rule_of start ≡ new_rule name.now → rule_of whole ≡ number_rule name.now most standard.now
  option_rule fresh =
      let makes : Rule → Rule = λ r. record r { long = Some name.now; action = Some Set; parser = Some (vp.Unsigned 1 most); defaults = standard.now ∷ [] } in
      ap rule_of settings ∙ ap makes fresh

  pub option_local : start.global ≡ false → whole.global ≡ false
  option_local local = ap {A = Arg} (λ a. a.global) settings ∙ local
