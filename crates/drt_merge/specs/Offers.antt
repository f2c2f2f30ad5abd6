-- What becomes of a mark that is offered.
use Rattle.std.specs.Prelude.{ℕ, ◌<◌, List, length}
use Rattle.drt_merge.specs.declared.mark.Mark.{Mark}
use Rattle.drt_merge.specs.declared.offering.Offered.{Offered}
use Rattle.drt_merge.specs.declared.offering.Offered.TheVariants.{Kept, Covered, Astray}
use Rattle.drt_merge.specs.Marks.{IsCovered, mark_at}

-- The first mark has a smaller offset and less work.
abbrev pub IsMarkBelow : Mark → Mark → Type 0
IsMarkBelow a b = (a.offset < b.offset) × (a.work < b.work)

-- The outcome fits: a mark that is kept is above each of the marks, and a covered one is covered. Nothing is known of one out of order.
abbrev pub IsOfferJudged : List Mark → Mark → Offered → Type 0
IsOfferJudged marks m Kept = (i : ℕ) → i < length marks → IsMarkBelow (mark_at marks i) m
IsOfferJudged marks m Covered = IsCovered marks m
IsOfferJudged marks m Astray = Unit {0}

-- The marks cover it after that, unless it comes out of order.
abbrev pub IsOffered : List Mark → Mark → Offered → Type 0
IsOffered marks m Kept = IsCovered marks m
IsOffered marks m Covered = IsCovered marks m
IsOffered marks m Astray = Unit {0}
