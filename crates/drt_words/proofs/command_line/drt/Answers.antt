-- The commands are added one by one.
use Rattle.std.proofs.Common.{Ok, codes}
use Rattle.clap.specs.Words.{App, Text}
use Rattle.drt_words.specs.CommandLine.{with_bench, with_margin, with_plain, with_search, with_timeline}
use Rattle.drt_words.proofs.Building.{stepped}
use Rattle.drt_words.proofs.command_line.drt.Goals as goal

abbrev searching : Text → App → App
searching name app = with_search app name

abbrev plain : Text → App → App
plain name app = with_plain app name

pub returns : goal.returns
returns c =
    let edf = stepped (Ok c.bare.result) c.add_search-edf.result (searching (codes "edf")) _ c.bare.ensures c.add_search-edf.ensures in
    let sp = stepped c.add_search-edf.result c.add_search-sp.result (searching (codes "sp")) _ edf c.add_search-sp.ensures in
    let upgrade = stepped c.add_search-sp.result c.add_plain-upgrade.result (plain (codes "upgrade")) _ sp c.add_plain-upgrade.ensures in
    let util = stepped c.add_plain-upgrade.result c.add_plain-util.result (plain (codes "util")) _ upgrade c.add_plain-util.ensures in
    let check = stepped c.add_plain-util.result c.add_plain-check.result (plain (codes "check")) _ util c.add_plain-check.ensures in
    let bench = stepped c.add_plain-check.result c.add_bench-bench.result with_bench _ check c.add_bench-bench.ensures in
    let response = stepped c.add_bench-bench.result c.add_search-response.result (searching (codes "response")) _ bench c.add_search-response.ensures in
    let convert = stepped c.add_search-response.result c.add_plain-convert.result (plain (codes "convert")) _ response c.add_plain-convert.ensures in
    let timeline = stepped c.add_plain-convert.result c.add_timeline-timeline.result with_timeline _ convert c.add_timeline-timeline.ensures in
    let assign = stepped c.add_timeline-timeline.result c.add_search-assign.result (searching (codes "assign")) _ timeline c.add_search-assign.ensures in
    stepped c.add_search-assign.result c.add_margin.result with_margin _ assign c.add_margin.ensures
