-- `reason::explaining::put_reason` meets its contract: the row, its links, and the lowest held value or range of the row that they lead back to. Assumes nothing.
use native.Mathlib.Omega.{arith}
use mathlib.Core.Path.{refl, ap}
use Rattle.finite.proofs.Writing.{reach}
use Rattle.model.specs.Sentence.{row_word, origin_text}
use Rattle.load.proofs.EndedLaws.{within_all}
use Rattle.text.proofs.Reach.{spaced-reach-by}
use Rattle.reason.proofs.Composing.{graded-reload, two_up, away, few-links, root-has, root-within, reason-written}
use Rattle.catalog.proofs.MakingLaws.{size-lent}
use Rattle.reason.proofs.WordingLaws.{origin-reach, sentence-within}
use Rattle.reason.proofs.explaining.put_reason.Goals as goal

pub load_held-requires : goal.load_held-requires
load_held-requires c = record { in_range = (c.requires.r_bound.1, c.requires.r_bound.3); catalogued = (_, c.requires.catalogued.0) }

pub overflow_sub-n : goal.overflow_sub-n
overflow_sub-n c = two_up _ _ _ _ (c.load_held.ensures _ c.requires.catalogued.0 (within_all _ _ _)).levels _ c.requires.catalogued.1

pub put_chain-t-requires : goal.put_chain-t-requires
put_chain-t-requires c = let f = (c.load_held.ensures _ c.requires.catalogued.0 (within_all _ _ _)).levels in
    let n = few-links _ _ _ _ f _ c.requires.catalogued.1 (size-lent _ _) _ refl in record { in_range = (c.requires.r_bound.1, c.requires.r_bound.0, n, c.requires.r_bound.2, omega (arith, n, spaced-reach-by _ _ _ _ 2 _ (omega arith) c.put_spaced-y.ensures)); graded = (graded-reload _ _ _ _ f, away _ _ _ _ f _ c.requires.catalogued.1 _ refl) }

pub lowest_held-o-requires : goal.lowest_held-o-requires
lowest_held-o-requires c = let f = (c.load_held.ensures _ c.requires.catalogued.0 (within_all _ _ _)).levels in
    let t = c.put_chain-t.ensures.0 in
    record { r_bound = (root-within _ _ _ _ f _ c.requires.catalogued.1 (size-lent _ _) _ _ refl t, c.requires.r_bound.1, c.requires.r_bound.2, c.requires.r_bound.3); i_value = root-has _ _ _ _ f _ c.requires.catalogued.1 (size-lent _ _) _ _ refl t }

pub put_origin-requires : goal.put_origin-requires
put_origin-requires c = let f = (c.load_held.ensures _ c.requires.catalogued.0 (within_all _ _ _)).levels in
    let n = few-links _ _ _ _ f _ c.requires.catalogued.1 (size-lent _ _) _ refl in
    omega (arith, n, c.put_chain-t.ensures.1, spaced-reach-by _ _ _ _ 2 _ (omega arith) c.put_spaced-y.ensures)

pub returns : goal.returns
returns c = let f = (c.load_held.ensures _ c.requires.catalogued.0 (within_all _ _ _)).levels in
    let n = few-links _ _ _ _ f _ c.requires.catalogued.1 (size-lent _ _) _ refl in (
      sentence-within _ _ _ _ _ n c.put_chain-t.ensures.1 (spaced-reach-by _ _ _ _ 2 _ (omega arith) c.put_spaced-y.ensures) (reach _ _ _ _ row_word 3 (omega arith) c.put_bytes-z.ensures)
          (origin-reach _ _ _ _ _ c.put_origin.ensures),
      reason-written _ _ _ _ f _ c.requires.catalogued.1 _ _ _ _ _ _ _ _ _ _ _ _ refl c.put_chain-t.ensures.0 (ap origin_text c.lowest_held-o.ensures) c.put_bytes-z.ensures c.put_spaced-y.ensures c.put_chain-t.ensures.2 c.put_origin.ensures,
    )
