-- The text of a flag is that of its rows.
use Rattle.std.proofs.Common.{◌≡◌, ap, ◌∙◌, bytes_eq, codes, false, rules}
use Rattle.std.specs.Option.{option_map_or}
use Rattle.clap.specs.Words.{found_of}
use Rattle.clap.proofs.WalkLemmas.{first_value-rows}
use Rattle.drt_words.proofs.words.flag.Goals as goal

pub returns-in-Some : goal.returns-in-Some
returns-in-Some c =
    let same : c.eq.result ≡ bytes_eq c.in-Some.text.now (codes "true") = search rules in
    same ∙ ap (λ o. option_map_or (λ text. bytes_eq text (codes "true")) o false) (c.in-Some.ensures ∙ first_value-rows (found_of c.args.matches.now) c.args.name.now)

pub returns-in-None : goal.returns-in-None
returns-in-None c =
    ap (λ o. option_map_or (λ text. bytes_eq text (codes "true")) o false) (c.in-None.ensures ∙ first_value-rows (found_of c.args.matches.now) c.args.name.now)
