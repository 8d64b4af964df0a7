-- `reason::explaining::put_links` ends: each call writes the links of a row that is one link nearer.
use Rattle.reason.proofs.explaining.+put_links.Given as goal

abbrev pub decreases-put_links : goal.decreases-put_links
decreases-put_links l = l.n
