-- What a desk's REFER and its load of a range are answered, and whether its pair, its query's or its range is taken, come from the desk's own pairs and ranges:
-- the other desks decide rows and rounds alone (02, Req 07 and 10). Assumes nothing.
use Prim.Native.Nat.{ℕ}
use native.Mathlib.Omega.{arith}
use mathlib.Core.Path.{◌≡◌, sym, ap, ap₂, ◌∙◌}
use mathlib.Core.Logic.{◌↔◌}
use mathlib.Core.Bool.{Bool, true, false, not, ◌&&◌}
use mathlib.Core.List.{List}
use lib.Dec.{leb, ltb}
use lib.ListN.{length}
use Rattle.finite.specs.Sameness.{listed}
use Rattle.model.specs.Cell.{numberless}
use Rattle.model.specs.Scheme.{Scheme, candidate}
use Rattle.model.specs.Database.{Database}
use Rattle.model.specs.Ranges.{Range, is_range, only_candidates, joined, contains}
use Rattle.model.specs.Holding.{places, most_ranges, Pair, same_pair, Holding, holds, has_room, covers_range, has_range_room}
use Rattle.model.specs.Runs.{refer, refer_range, taken, range_taken, Cache}
use Rattle.model.specs.Answers.{Answer, loaded, held, no_candidate, refused, unless, or_answer}
use Rattle.model.specs.Effects.{effect, answer}
use Rattle.model.specs.Desks.{SameDesk, SameButRows, same, loads}
use Rattle.model.proofs.HoldingLaws.{own-listed}

module _ {h g : Holding} (d : SameDesk h g) where
  holds-alone : (p : Pair) → holds h p ≡ holds g p
  holds-alone p = own-listed h.desk p h.values ∙ ap (λ (ps : List Pair). listed same_pair p ps) d.own ∙ sym (own-listed g.desk p g.values)

  room-alone : has_room h ≡ has_room g
  room-alone = ap (λ (ps : List Pair). ltb (length ps) places) d.own

  -- so is Req 02's limit on the queries that refer
  pub taken-alone : (S : Scheme) (p : Pair) → taken S h p ≡ taken S g p
  unfolding taken
  taken-alone S p =
      ap₂ (λ (a b : Bool). ltb p.filling S.fillings && (candidate (S.filling p.filling) p.value && (not a && b))) (holds-alone p) room-alone

  covers-alone : (r : Range) → covers_range h r ≡ covers_range g r
  covers-alone r = ap (λ (rs : List Range). listed contains r rs) d.ranges

  range-room-alone : (r : Range) → has_range_room h r ≡ has_range_room g r
  range-room-alone r = ap (λ (rs : List Range). leb (length (joined r rs)) most_ranges) d.ranges

  pub range-taken-alone : (S : Scheme) (r : Range) → range_taken S h r ≡ range_taken S g r
  unfolding range_taken
  range-taken-alone S r = ap₂ (λ (a b : Bool). is_range S r && (only_candidates S r && (not a && b))) (covers-alone r) (range-room-alone r)

-- behind the same tests stand the same answers, but for a load's numbers
behind : (a b c d e : Bool) (rows rounds others turns : ℕ) →
    SameButRows (unless a 5 (unless b 9 (or_answer c no_candidate (or_answer d held (unless e 8 (loaded rows rounds))))))
    (unless a 5 (unless b 9 (or_answer c no_candidate (or_answer d held (unless e 8 (loaded others turns))))))
behind true b c d e w x y z = same _
behind false true c d e w x y z = same _
behind false false true d e w x y z = same _
behind false false false true e w x y z = same _
behind false false false false true w x y z = same _
behind false false false false false w x y z = loads w x y z

module _ (S : Scheme) (D E : Database) (c e : Cache) (d : SameDesk c.held e.held) (p : Pair) where
  -- THEOREM: two caches with one desk named and the same pairs of its own answer a REFER alike but for rows and rounds, whatever their rows
  pub desk-alone : SameButRows (answer S D c (refer p)) (answer S E e (refer p))
  unfolding effect
  desk-alone =
      rw (holds-alone d p, room-alone d)
      (behind (not (ltb p.filling S.fillings)) (numberless p.value) (not (candidate (S.filling p.filling) p.value)) (holds e.held p)
      (not (has_room e.held)) _ _ _ _)

-- THEOREM: and so a load of a range
pub desk-alone-range : (S : Scheme) (D E : Database) (c e : Cache) → SameDesk c.held e.held → (r : Range) →
    SameButRows (answer S D c (refer_range r)) (answer S E e (refer_range r))
unfolding effect
desk-alone-range S D E c e d r =
    rw (covers-alone d r, range-room-alone d r)
    (behind (not (is_range S r)) false (not (only_candidates S r)) (covers_range e.held r) (not (has_range_room e.held r)) _ _ _ _)

-- two such answers are refused alike
pub refused-alike : {a b : Answer} → SameButRows a b → (n : ℕ) → (a ≡ refused n) ↔ (b ≡ refused n)
refused-alike (same a) n = (λ e. e, λ e. e)
refused-alike (loads w x y z) n = (λ e. let q : ◌≡◌ {A = ℕ} 0 1 = cc in absurd (omega arith), λ e. let q : ◌≡◌ {A = ℕ} 0 1 = cc in absurd (omega arith))
