-- `change::changing::remove_lawful` meets its contract. Assumes nothing.
use Rattle.state.specs.Changes.{remove}
use Rattle.state.proofs.Arrays.{sized}
use Rattle.state.proofs.HeldWords.{words-sized}
use Rattle.lawful.proofs.Asked.{sound-backed}
use mathlib.Core.Path.{refl}
use Rattle.change.proofs.CauseLaws.{cause-given, no-cause}
use Rattle.change.proofs.ReplaceLaws.{changed-refused, replace-asked, changed-well}
use Rattle.change.proofs.BesideLaws.{remove-asked}
use Rattle.change.proofs.LeavingLaws.{sound-marking}
use Rattle.change.proofs.changing.remove_lawful.Goals as goal

pub remove_cause-requires : goal.remove_cause-requires
remove_cause-requires c = (sound-backed _ c.requires.0).members

pub returns-in-Some : goal.returns-in-Some
returns-in-Some c = let s = c in
    let g = cause-given _ _ _ (c.remove_cause.ensures _) c.in-Some.is in
    record { changed = changed-refused _ s.requires.0 (remove s.args.r) _ g.0 g.1; catalogued = s.requires.1 }

pub go-requires : goal.go-requires
go-requires c = let s = c in
    let f = no-cause _ _ (c.remove_cause.ensures _) c.in_default.is in
    let p = replace-asked _ s.requires.0 (remove s.args.r) 0 f refl (sized s.args.design _ s.well_formed.0) (words-sized s.args.held.now) in
    record { r_bound = p; r_bound_2 = (remove-asked _ s.requires.0 p.1 s.args.r 0 refl f, sound-marking _ s.requires.0, s.requires.1) }

pub returns : goal.returns
returns c = let s = c in
    record { changed = changed-well _ s.requires.0 (remove s.args.r) 0 (no-cause _ _ (c.remove_cause.ensures _) c.in_default.is) refl _ _ c.go.ensures.replaced; catalogued = c.go.ensures.catalogued }
