-- `change::changing::put_lawful` meets its contract. Assumes nothing.
use Rattle.state.specs.Changes.{put}
use Rattle.state.proofs.Arrays.{sized}
use Rattle.state.proofs.HeldWords.{words-sized}
use Rattle.lawful.proofs.Asked.{sound-range, sound-backed}
use mathlib.Core.Path.{refl}
use Rattle.change.proofs.CauseLaws.{cause-given, no-cause}
use Rattle.change.proofs.ReplaceLaws.{changed-refused, replace-asked, changed-well}
use Rattle.change.proofs.BesideLaws.{put-asked}
use Rattle.change.proofs.LeavingLaws.{sound-marking}
use Rattle.change.proofs.changing.put_lawful.Goals as goal

pub put_cause-requires : goal.put_cause-requires
put_cause-requires c = let s = c in
    (sound-range _ s.requires.0 (sized s.args.design _ s.well_formed.0), (sound-backed _ s.requires.0).members)

pub returns-in-Some : goal.returns-in-Some
returns-in-Some c = let s = c in
    let g = cause-given _ _ _ (c.put_cause.ensures _ s.requires.1.index) c.in-Some.is in
    record { changed = changed-refused _ s.requires.0 (put s.args.r s.args.x) _ g.0 g.1; catalogued = s.requires.1 }

pub come-requires : goal.come-requires
come-requires c = let s = c in
    let f = no-cause _ _ (c.put_cause.ensures _ s.requires.1.index) c.in_default.is in
    let p = replace-asked _ s.requires.0 (put s.args.r s.args.x) 0 f refl (sized s.args.design _ s.well_formed.0) (words-sized s.args.held.now) in
    let q = put-asked _ s.requires.0 p.1 s.args.r 0 refl s.args.x f in
    record { r_bound = p; table_bound = (q.0, q.1, sound-marking _ s.requires.0, s.requires.1) }

pub returns : goal.returns
returns c = let s = c in
    record { changed = changed-well _ s.requires.0 (put s.args.r s.args.x) 0 (no-cause _ _ (c.put_cause.ensures _ s.requires.1.index) c.in_default.is) refl _ _ c.come.ensures.replaced; catalogued = c.come.ensures.catalogued }
