-- Lookup: sections, then search, then the entry, then the language data of a generic one.
use Rattle.std.specs.Prelude.{ℕ, List, Ok}
use Rattle.std.specs.Result.{result_and}
use Rattle.section.specs.Check.{Answered, and_then}
use Rattle.section.specs.declared.Addr.{Addr}
use Rattle.entry.specs.Parts.{language_in}
use Rattle.image.specs.Image.{Image, sections_of, entry_at}
use Rattle.image.specs.declared.Found.{Found}
use Rattle.search.specs.Search.{search_of}
use Rattle.lsda.specs.Sites.{call_site_of}
use Rattle.lookup.specs.declared.Looked.{Looked}

-- entry k: cannot unwind; compact, its language data not read; or generic with the call site for the counter, or with why there is none
unfoldable pub looked_at : List ℕ → Addr → ℕ → Found → Answered Looked
looked_at ys c k (Found.CannotUnwind f) = Ok (Looked.CannotUnwind k f)
looked_at ys c k (Found.Compact f n s) = Ok (Looked.Compact k f s.held n)
looked_at ys c k (Found.Generic f p s o) = and_then (call_site_of (language_in ys o) f c) (λ site. Ok (Looked.Generic k f p site))

unfoldable pub lookup_of : Image → Addr → Answered Looked
lookup_of i c =
    result_and (sections_of i)
    (and_then (search_of i.index i.index_at c) (λ h.
    and_then (entry_at i h.entry) (λ x.
    looked_at i.table c h.entry x)))
