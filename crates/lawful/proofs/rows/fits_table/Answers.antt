use Rattle.std.proofs.Common.{rules}
use mathlib.Core.Path.{refl, ◌∙◌}
use borrow.Author.Tests.{le-ltb, lt-ltb}
use Rattle.std.proofs.lemmas.Iterator.{YieldsList-from_range}
use Rattle.finite.proofs.Bools.{and-go, and-stop}
use Rattle.finite.proofs.Ranges.{all_in-range}
use Rattle.state.specs.Lawful.{cell_fits}
use Rattle.state.specs.Meaning.{scheme_of}
use Rattle.lawful.proofs.rows.fits_table.Goals as goal
use Rattle.lawful.proofs.rows.fits_table.Goals.{then-t-d, else-t-d}

pub returns : goal.returns
unfolding scheme_of
returns g c = λ a h.
    elim c.if-t-d.branch [
      | then-t-d w ↦ w.result-is
          ∙ and-go _ _ (lt-ltb _ _ (rw c.from-t.ensures at w.if-t-d.true))
          (rw (c.table_at-n.ensures, c.from-t.ensures) at
          (all_in-range 8 (λ i. cell_fits c.table_at-n.result.columns i (a i)) _ _ _ w.all.ensures.ran (YieldsList-from_range 0 8 8 (cc) refl)
          (λ x b f k. (search rules, search (rules, k.met.1, h x)))))
      | else-t-d w ↦ w.result-is ∙ le-ltb _ _ w.if-t-d.false ∙ and-stop _ _ (le-ltb _ _ (rw c.from-t.ensures at w.if-t-d.false))
    ]
