-- Unique columns without a value twice, as the links of a catalog show it. Assumes nothing.
use Rattle.std.specs.Prelude.{ℕ, Bool, not, ◌&&◌, List, ltb, get_or}
use Rattle.finite.specs.Finite.{any, all}
use Rattle.model.specs.Database.{Database}
use Rattle.state.specs.declared.design.Design.{Design}
use Rattle.state.specs.Design.{table_at}
use Rattle.state.specs.Meaning.{bit}
use Rattle.catalog.specs.Catalog.{next_of}

-- column c is unique, by the bits of its table, and a later row has row r's value there
abbrev pub linked_at : ℕ → Database → ℕ → ℕ → Bool
linked_at unique D r c = bit unique c && ltb (next_of D r c) 512

-- no row has a unique column of this kind
unfoldable pub distinct : Design → List ℕ → Database → Bool
distinct d tables D = all 512 (λ r. not (any 8 (linked_at (table_at d (get_or tables r 0)).unique D r)))
