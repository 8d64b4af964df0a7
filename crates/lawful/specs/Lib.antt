-- No promise of an entry point rests on these definitions: they say how the code finds what state/specs and model/specs define.
-- Parts: the parts of a lawful state, place by place. LawfulState: what a lawful state is, in plain terms.
pub mod Parts
pub mod LawfulState
