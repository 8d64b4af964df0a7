-- `guard::causes::is_lawful_catalog` meets its contract: the design, the rows, the held values, the catalog, unique columns, then the marks. Assumes nothing.
use mathlib.Core.Path.{refl, sym, ◌∙◌}
use mathlib.Core.Bool.{and-eq-true_iff}
use Rattle.finite.proofs.Bools.{clash, refute, and-go, and-stop}
use Rattle.state.specs.HeldWords.{words_held, narrow_held}
use Rattle.state.specs.Lawful.{lawful_held}
use Rattle.state.specs.Lent.{lawful}
use Rattle.state.proofs.Arrays.{sized}
use Rattle.state.proofs.HeldWords.{words-sized}
use Rattle.lawful.proofs.DesignLaws.{in-range}
use Rattle.lawful.proofs.HeldLaws.{held-bounded}
use Rattle.lawful.proofs.RowsLaws.{lawful-stand}
use Rattle.load.proofs.EndedLaws.{within_all}
use Rattle.guard.proofs.DistinctLaws.{distinct-is}
use Rattle.guard.proofs.CauseWords.{words-unlawful, words-other}
use Rattle.guard.proofs.MarkLaws.{agree-is}
use Rattle.guard.proofs.causes.is_lawful_catalog.Goals as goal

pub returns-then-not-lawful_design : goal.returns-then-not-lawful_design
unfolding lawful
returns-then-not-lawful_design c = (words-other _ _ (and-stop _ _ (sym c.lawful_design.ensures ∙ c.if-not-lawful_design.true)), λ e. clash e refl)

pub returns-then-not-rows_stand : goal.returns-then-not-rows_stand
unfolding lawful
returns-then-not-rows_stand c = let s = c.args in (
  words-other _ _ (and-go _ _ (sym c.lawful_design.ensures ∙ c.if-not-lawful_design.false) (and-stop _ _ (refute _ (λ t. clash (lawful-stand s.design _ _ t) (sym c.rows_stand.ensures ∙ c.if-not-rows_stand.true))))),
  λ e. clash e refl,
)

pub returns-then-not-lawful_held : goal.returns-then-not-lawful_held
returns-then-not-lawful_held c = (words-unlawful _ _ (sym c.lawful_held.ensures ∙ c.if-not-lawful_held.true), λ e. clash e refl)

pub build-requires : goal.build-requires
build-requires c = let s = c in (in-range s.args.design (sized s.args.design _ s.well_formed.0) (sym c.lawful_design.ensures ∙ c.if-not-lawful_design.false), s.requires.0)

pub returns-then-not-is_distinct : goal.returns-then-not-is_distinct
unfolding lawful
returns-then-not-is_distinct c = let s = c in (
  words-other _ _ (and-go _ _ (sym c.lawful_design.ensures ∙ c.if-not-lawful_design.false)
      (and-stop _ _ (sym (distinct-is s.args.design _ _ (sym c.rows_stand.ensures ∙ c.if-not-rows_stand.false)) ∙
      sym (c.is_distinct.ensures _ c.build.ensures.demands.links) ∙ c.if-not-is_distinct.true))),
  λ e. clash e refl,
)

pub load_held-requires : goal.load_held-requires
load_held-requires c = let s = c in
    let d = sym c.lawful_design.ensures ∙ c.if-not-lawful_design.false in
    let h = (and-eq-true_iff (narrow_held s.args.held.now) (lawful_held s.args.design (words_held s.args.held.now))).0 (sym c.lawful_held.ensures ∙ c.if-not-lawful_held.false) in record { in_range = (in-range s.args.design (sized s.args.design _ s.well_formed.0) d, held-bounded s.args.design (words_held s.args.held.now) d h.1 (words-sized s.args.held.now)); catalogued = (_, c.build.ensures) }

pub marks_agree-requires : goal.marks_agree-requires
marks_agree-requires c = (c.requires.1, (c.load_held.ensures _ c.build.ensures (within_all _ _ _)).long)

pub returns : goal.returns
unfolding lawful
returns c = let s = c in
    let h = (and-eq-true_iff (narrow_held s.args.held.now) (lawful_held s.args.design (words_held s.args.held.now))).0 (sym c.lawful_held.ensures ∙ c.if-not-lawful_held.false) in (
      and-go _ _ h.0
          (and-go _ _ (sym c.lawful_design.ensures ∙ c.if-not-lawful_design.false)
          (and-go _ _ (sym (distinct-is s.args.design _ _ (sym c.rows_stand.ensures ∙ c.if-not-rows_stand.false)) ∙ sym (c.is_distinct.ensures _ c.build.ensures.demands.links) ∙ c.if-not-is_distinct.false)
          (and-go _ _ h.1 (c.marks_agree.ensures ∙ agree-is s.args.design _ _ (words_held s.args.held.now) _ _ (c.load_held.ensures _ c.build.ensures (within_all _ _ _)) _)))),
      λ e. c.build.ensures,
    )
