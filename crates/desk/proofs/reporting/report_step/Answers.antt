-- `desk::reporting::report_step` meets its contract: the step's lines, and what is left behind them. Assumes nothing.
use native.Mathlib.Omega.{arith}
use mathlib.Core.Path.{refl}
use Rattle.report.proofs.Lengths.{command-line-reach}
use Rattle.desk.proofs.TextLaws.{lists_at, room_for, lists-reach, step-printed, step-next, step_fits}
use Rattle.desk.proofs.reporting.report_step.Goals as goal

pub step_lawful-step-requires : goal.step_lawful-step-requires
step_lawful-step-requires c = c.requires.held_value

pub put_command_line-z-requires : goal.put_command_line-z-requires
put_command_line-z-requires c = omega (arith, c.requires.more_value.4, c.requires.more_value.5, c.text-1.given)

pub positions_at-p-requires : goal.positions_at-p-requires
positions_at-p-requires c = c.requires.more_value.1

pub put_lists-end-requires : goal.put_lists-end-requires
put_lists-end-requires c = let s = c in
    let step = c.step_lawful-step.ensures.does in
    let line = command-line-reach _ _ _ _ _ c.step_lawful-step.result.answer _ _ c.put_command_line-z.ensures in (
      omega (arith, c.positions_at-p.ensures),
      λ e. room_for _ _ _ _ _ _ _ _ _ c.positions_at-p.ensures (step_fits _ _ _ s.args.from s.requires.more_value.0 s.requires.more_value.1 _ _ _ step e) (omega (arith, c.words-1.given)) s.requires.more_value.3 line
          (omega (arith, s.requires.more_value.4, c.text-1.given)) (omega (arith, s.requires.more_value.5, c.out-1.given)),
    )

pub overflow_add-result : goal.overflow_add-result
overflow_add-result c = let s = c in omega (arith, s.requires.more_value.1, s.requires.more_value.2)

pub returns : goal.returns
returns c = let s = c in
    let step = c.step_lawful-step.ensures.does in
    let lists = lists_at _ _ _ _ c.positions_at-p.ensures c.put_lists-end.ensures in
    let fits = step_fits _ _ _ s.args.from s.requires.more_value.0 s.requires.more_value.1 _ _ _ step in record {
      printed = step-printed _ _ _ s.args.from s.requires.more_value.0 s.requires.more_value.1 _ _ _ step _ refl refl c.goes_on-more.ensures _ _ _ _ c.put_command_line-z.ensures lists s.requires.held_value.0;
      end_bound = (
        omega (arith, command-line-reach _ _ _ _ _ c.step_lawful-step.result.answer _ _ c.put_command_line-z.ensures, s.requires.more_value.4, c.text-1.given, lists-reach _ _ _ _ _ _ _ (λ k. (c.slice_known-12-1.given k).fits) (omega arith) (λ e. omega (arith, fits e, s.requires.more_value.3)) lists),
        λ e. step-next _ _ _ s.args.from s.requires.more_value.0 s.requires.more_value.1 _ _ _ step _ c.goes_on-more.ensures e s.requires.more_value.2,
      );
      catalogued = c.step_lawful-step.ensures.catalogued;
    }
