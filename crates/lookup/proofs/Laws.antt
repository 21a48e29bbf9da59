-- Laws of lookup. Assumes nothing.
use Rattle.std.proofs.Common.{◌≡◌, ℕ, List, ap, sym, refl, ◌∙◌, Ok, Err}
use Rattle.std.specs.Result.{result_and}
use Rattle.section.specs.Check.{Answered, fine, and_then}
use Rattle.section.specs.declared.Refusal.{Refusal}
use Rattle.section.specs.declared.Addr.{Addr}
use Rattle.section.specs.declared.Off.{Off}
use Rattle.entry.specs.Parts.{language_in}
use Rattle.entry.specs.declared.Span.{Span}
use Rattle.image.specs.declared.Found.{Found}
use Rattle.lsda.specs.Sites.{call_site_of}
use Rattle.lsda.specs.declared.CallSite.{CallSite}
use Rattle.image.specs.Image.{Image, sections_of, entry_at, led_by}
use Rattle.search.specs.Search.{search_of}
use Rattle.search.specs.declared.Hit.{Hit}
use Rattle.search.proofs.Laws.{found_led}
use Rattle.lookup.specs.Lookup.{looked_at, lookup_of}
use Rattle.lookup.specs.declared.Looked.{Looked}

-- what an entry leads to: one that cannot be unwound, and a compact one
module _ (ys : List ℕ) (c : Addr) (k : ℕ) (f : Addr) where
  pub looked_cannot : looked_at ys c k (Found.CannotUnwind f) ≡ Ok (Looked.CannotUnwind k f)
  unfolding looked_at
  looked_cannot = refl

  pub looked_compact : (n : ℕ) (s : Span) → looked_at ys c k (Found.Compact f n s) ≡ Ok (Looked.Compact k f s.held n)
  unfolding looked_at
  looked_compact n s = refl

-- a generic entry: y is the call site of its language data
pub looked_generic : (ys : List ℕ) (c : Addr) (k : ℕ) (f p : Addr) (s : Span) (o : Off) {language : List ℕ} {y : Answered CallSite}
    → language ≡ language_in ys o → y ≡ call_site_of language f c → looked_at ys c k (Found.Generic f p s o) ≡ and_then y (λ site. Ok (Looked.Generic k f p site))
unfolding looked_at
looked_generic ys c k f p s o d e = ap (λ (x : Answered CallSite). and_then x (λ site. Ok (Looked.Generic k f p site))) (sym (e ∙ ap (λ (l : List ℕ). call_site_of l f c) d))

-- the function that the search read leads on
module _ (i : Image) (c : Addr) where
  pub lookup_led : lookup_of i c ≡ result_and (sections_of i) (and_then (search_of i.index i.index_at c) (λ h. and_then (led_by i h.entry h.function) (λ x. looked_at i.table c h.entry x)))
  unfolding lookup_of
  lookup_led = ap (λ (x : Answered Looked). result_and (sections_of i) x) (go (search_of i.index i.index_at c) refl)
    where
      go : (y : Answered Hit) → search_of i.index i.index_at c ≡ y
          → and_then y (λ h. and_then (entry_at i h.entry) (λ x. looked_at i.table c h.entry x)) ≡ and_then y (λ h. and_then (led_by i h.entry h.function) (λ x. looked_at i.table c h.entry x))
      go (Ok h) e = ap (λ (x : Answered Found). and_then x (λ x. looked_at i.table c h.entry x)) (sym (found_led i c h e))
      go (Err r) e = refl

  -- by what the sections and the search gave
  pub lookup_sections : (r : Refusal) → sections_of i ≡ Err r → lookup_of i c ≡ Err r
  unfolding lookup_of
  lookup_sections r e = rw e

  module _ (pass : sections_of i ≡ fine) where
    pub lookup_refused : (r : Refusal) → search_of i.index i.index_at c ≡ Err r → lookup_of i c ≡ Err r
    unfolding lookup_of
    lookup_refused r e = rw (pass, e)

    pub lookup_hit : (h : Hit) → search_of i.index i.index_at c ≡ Ok h → lookup_of i c ≡ and_then (entry_at i h.entry) (λ x. looked_at i.table c h.entry x)
    unfolding lookup_of
    lookup_hit h e = rw (pass, e)
