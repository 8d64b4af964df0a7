-- `load::reached::Load::reach` meets its contract: a step to one row. Assumes nothing.
use native.Mathlib.Omega.{arith}
use Rattle.load.proofs.QueueLaws.{grown-held, grown-one, grown-room}
use Rattle.load.proofs.reached.Load.reach.Goals as goal

pub returns-then-self-r-ne0 : goal.returns-then-self-r-ne0
returns-then-self-r-ne0 c = grown-held _ _ _ _ _ c.args.self.now.long c.args.self.now.listed c.if-self-r-ne0.true

pub offset_bounds-self-self : goal.offset_bounds-self-self
offset_bounds-self-self c = omega (arith, grown-room c.args.to _ _ _ _ c.args.self.now.long c.args.self.now.listed c.requires.0 c.requires.1 c.if-self-r-ne0.false)

pub bounds-self-self : goal.bounds-self-self
bounds-self-self c = grown-room c.args.to _ _ _ _ c.args.self.now.long c.args.self.now.listed c.requires.0 c.requires.1 c.if-self-r-ne0.false

pub overflow_add-self : goal.overflow_add-self
overflow_add-self c = omega (arith, grown-room c.args.to _ _ _ _ c.args.self.now.long c.args.self.now.listed c.requires.0 c.requires.1 c.if-self-r-ne0.false)

pub invariant_of-self : goal.invariant_of-self
invariant_of-self c = let g = grown-one c.args.to _ _ _ _ c.args.self.now.long c.args.self.now.listed c.requires.0 c.requires.1 c.if-self-r-ne0.false in
    record { long = g.long; listed = g.queue }

pub returns : goal.returns
returns c = grown-one _ _ _ _ _ c.args.self.now.long c.args.self.now.listed c.requires.0 c.requires.1 c.if-self-r-ne0.false
