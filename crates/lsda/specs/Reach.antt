-- What one counter meets in a trail of call sites.
use Rattle.std.specs.Prelude.{Err}
use Rattle.section.specs.Check.{Check, fine}
use Rattle.section.specs.Pick.{pick}
use Rattle.section.specs.Walk.{Trail}
use Rattle.section.specs.declared.Addr.{Addr}
use Rattle.lsda.specs.Site.{fits_of}
use Rattle.lsda.specs.Sites.{covers_of}
use Rattle.lsda.specs.declared.Site.{Site}

-- the fault that a counter meets: what stopped the walk before any site covers it, or what its site's pad or action gives
unfoldable pub fault_at : Addr → Addr → Trail Site → Check
fault_at base c Trail.end = fine
fault_at base c (Trail.stop r) = Err r
fault_at base c (Trail.more x t) = pick (covers_of c x) (fits_of base x) (fault_at base c t)
