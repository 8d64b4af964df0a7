-- How many places the arrays of a design and of held values have. A list in a definition has any length; that a function owns the value tells
-- it: of a first parameter d, `sized c.args.d _ c.good.0`, of a second one `c.good.1.0`, and so on. Assumes nothing.
use Prim.Native.Nat.{ℕ, zero, suc, ◌<◌}
use native.Mathlib.Omega.{arith}
use mathlib.Core.Path.{◌≡◌}
use mathlib.Core.List.{List, [], ◌∷◌}
use denote.Array.{each}
use denote.Laws.{Is}
use denote.Shadow.{shadow}
use denote.Struct.Declared.{row}
use mir.Val.{Val}
use lib.ListN.{length, get_or}
use Rattle.state.specs.declared.design.Design.{Design}
use Rattle.state.specs.declared.held.DeskRanges.{DeskRanges}
use Rattle.state.specs.declared.held.Held.{Held}
use Rattle.state.specs.Held.{no_ranges, ranges_at}
use Rattle.state.specs.contracts.design.Design.{the_type}
use Rattle.state.specs.contracts.held.DeskRanges as R
use Rattle.state.specs.contracts.held.Held as H

pub record Sized (d : Design) : Type 0 where
  pub table : length d.table ≡ 8
  pub constraint : length d.constraint ≡ 16
  pub filling : length d.filling ≡ 8

pub sized : (d : Design) (vs : List Val) → Is (row the_type) d vs → Sized d
sized d vs g =
    record {
      table = g.1.1.1.0.1.0.1;
      constraint = g.1.1.1.1.1.0.1.0.1;
      filling = g.1.1.1.1.1.1.1.0.1.0.1;
    }

pub ranges-sized : (s : DeskRanges) (vs : List Val) → Is (row R.the_type) s vs → length s.list ≡ 8
ranges-sized s vs g = g.1.1.1.0.1.0.1

pub record HeldSized (h : Held) : Type 0 where
  pub values : length h.values ≡ 64
  pub ranges : length h.ranges ≡ 4
  pub list : (e : ℕ) → e < 4 → length (ranges_at h e).list ≡ 8

-- each element of an array of these is as long
each-sized : (xs : List DeskRanges) (us : List Val) → shadow (each (R.the_row).Denot (R.the_row).own_val xs us) →
    (e : ℕ) → e < length xs → length (get_or xs e no_ranges).list ≡ 8
each-sized [] us g e l = absurd (omega arith)
each-sized (x ∷ xs) [] g e l = absurd g
each-sized (x ∷ xs) (u ∷ us) g zero l = ranges-sized x (u ∷ []) g.0
each-sized (x ∷ xs) (u ∷ us) g (suc e) l = each-sized xs us g.1 e (omega arith)

pub held-sized : (h : Held) (vs : List Val) → Is (row H.the_type) h vs → HeldSized h
held-sized h vs g =
    let k : length h.ranges ≡ 4 = g.1.1.1.1.1.0.1.0.1 in
    record {
      values = g.1.1.1.1.0.1.0.1;
      ranges = k;
      list = λ e l. each-sized h.ranges _ g.1.1.1.1.1.0.1.1 e (omega (arith, k));
    }
