-- `slice::whole::missing_lawful` meets its contract. Assumes nothing.
use Rattle.lawful.proofs.Asked.{sound-range, sound-bounded, sound-backed, sound-marks}
use Rattle.state.proofs.Arrays.{sized}
use Rattle.state.proofs.HeldWords.{words-sized}
use Rattle.slice.specs.Replies.{missing_at}
use Rattle.slice.proofs.AcceptedLaws.{fit-ordered}
use Rattle.slice.proofs.LackLaws.{missing-pairs, missing-ranges, missing-rows}
use Rattle.slice.proofs.whole.missing_lawful.Goals as goal

pub pairs_lack-requires : goal.pairs_lack-requires
pairs_lack-requires c = let s = c in (sound-range _ s.requires.0 (sized s.args.design _ s.well_formed.0), sound-bounded _ s.requires.0 (words-sized s.args.held.now), fit-ordered _ _ _ s.requires.3 s.requires.2)

pub returns-in-Some : goal.returns-in-Some
unfolding missing_at
returns-in-Some c = let s = c in missing-pairs _ _ _ _ _ _ (c.in-Some.ensures _ s.requires.1.index)

pub ranges_lack-requires : goal.ranges_lack-requires
ranges_lack-requires c = let s = c in (sound-range _ s.requires.0 (sized s.args.design _ s.well_formed.0), sound-bounded _ s.requires.0 (words-sized s.args.held.now), fit-ordered _ _ _ s.requires.3 s.requires.2)

pub returns-in-Some-ranges_lack : goal.returns-in-Some-ranges_lack
unfolding missing_at
returns-in-Some-ranges_lack c = let s = c in missing-ranges _ _ _ _ _ _ (c.in_default.ensures _ s.requires.1.index) (c.in-Some-ranges_lack.ensures _ s.requires.1.index)

pub rows_lack-requires : goal.rows_lack-requires
rows_lack-requires c = let s = c in (sound-range _ s.requires.0 (sized s.args.design _ s.well_formed.0), sound-backed _ s.requires.0, fit-ordered _ _ _ s.requires.3 s.requires.2, sound-marks _ s.requires.0)

pub returns : goal.returns
unfolding missing_at
returns c = let s = c in missing-rows _ _ _ _ _ _ (c.in_default.ensures _ s.requires.1.index) (c.in_default-ranges_lack.ensures _ s.requires.1.index) (c.rows_lack.ensures s.requires.1.demands)
