-- `reason::explaining::put_links` meets its contract: the last link, then the links of the row that it comes from, one nearer to what is held. Assumes nothing.
use native.Mathlib.Omega.{arith}
use mathlib.Core.Path.{sym, subst, ◌∙◌}
use Rattle.reason.specs.Links.{Chained}
use Rattle.reason.proofs.WordingLaws.{link-reach}
use Rattle.reason.proofs.LinkLaws.{chained-last}
use Rattle.reason.proofs.Composing.{root_none, links-none, root-more, links-more, constraint-below, row_below, row-nearer}
use Rattle.reason.proofs.explaining.+put_links.Goals as goal

pub returns-then-n-eq0 : goal.returns-then-n-eq0
returns-then-n-eq0 t c = λ S D L x. let o = c.if-n-eq0.true in (root_none S D L _ _ o, omega arith, links-none S D L _ _ _ _ o)

pub put_link-z-requires : goal.put_link-z-requires
put_link-z-requires t c =
    let p = c.requires in
    let x = p.2 in
    let o = c.if-n-eq0.false in
    let u = chained-last x.0 x.1 x.2 _ _ _ _ o x.3.links in
    let a = c.from-i.ensures ∙ u.0 in
    let b = c.from-s.ensures ∙ u.1 in (
      omega (arith, constraint-below x.0 x.1 x.2 _ _ o _ _ a b x.3.graded x.3.away, x.3.few),
      row_below x.0 x.1 x.2 _ _ o _ _ a b x.3.graded x.3.away x.3.size_is,
      omega (arith, p.1),
    )

pub put_links-requires : goal.put_links-requires
put_links-requires t c =
    let p = c.requires in
    let x = p.2 in
    let o = c.if-n-eq0.false in
    let u = chained-last x.0 x.1 x.2 _ _ _ _ o x.3.links in
    let a = c.from-i.ensures ∙ u.0 in
    let b = c.from-s.ensures ∙ u.1 in
    let i = constraint-below x.0 x.1 x.2 _ _ o _ _ a b x.3.graded x.3.away in
    let s = row_below x.0 x.1 x.2 _ _ o _ _ a b x.3.graded x.3.away x.3.size_is in
    let z = link-reach _ _ _ _ _ _ (omega (arith, i, x.3.few)) s c.put_link-z.ensures in (
      omega (arith, c.decreases, o),
      (
        omega (arith, p.0),
        omega (arith, z, p.1, o),
        (
          x.0,
          x.1,
          x.2,
          record {
            few = x.3.few;
            size_is = x.3.size_is;
            graded = x.3.graded;
            away = row-nearer x.0 x.1 x.2 _ _ o _ _ a b x.3.graded x.3.away;
            links = subst (Chained x.0 x.1 x.2 _ _ _) (sym b) u.2;
          },
        ),
      ),
    )

pub returns : goal.returns
returns t c = λ S D L x.
    let o = c.if-n-eq0.false in
    let u = chained-last S D L _ _ _ _ o x.links in
    let a = c.from-i.ensures ∙ u.0 in
    let b = c.from-s.ensures ∙ u.1 in
    let i = constraint-below S D L _ _ o _ _ a b x.graded x.away in
    let s = row_below S D L _ _ o _ _ a b x.graded x.away x.size_is in
    let z = link-reach _ _ _ _ _ _ (omega (arith, i, x.few)) s c.put_link-z.ensures in
    let v =
    c.put_links.ensures S D L
    (record {
      few = x.few;
      size_is = x.size_is;
      graded = x.graded;
      away = row-nearer S D L _ _ o _ _ a b x.graded x.away;
      links = subst (Chained S D L _ _ _) (sym b) u.2;
    })
    in
    (root-more S D L _ _ o _ _ a b _ v.0, omega (arith, z, v.1, o), links-more S D L _ _ o _ _ a b _ _ _ _ _ _ c.put_link-z.ensures v.2)
