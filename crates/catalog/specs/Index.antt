-- What is asked of a lent catalog with its keys: that it is the catalog of some rows, or the part of it that a function reads. Assumes nothing.
use Rattle.model.specs.Scheme.{Scheme}
use Rattle.model.specs.Database.{Database}
use Rattle.catalog.specs.declared.index.Index.{Index}
use Rattle.catalog.specs.Catalog.{Directory, Indexed, Catalogued, heads_in, starts_in}

abbrev pub IsDirectory : Database → Index → Type 0
IsDirectory D i = Directory D i.keys.now (heads_in i.catalog.now) (starts_in i.catalog.now)

abbrev pub IsIndexed : Database → Index → Type 0
IsIndexed D i = Indexed D i.catalog.now i.keys.now

abbrev pub IsCatalogued : Scheme → Database → Index → Type 0
IsCatalogued S D i = Catalogued S D i.catalog.now i.keys.now
