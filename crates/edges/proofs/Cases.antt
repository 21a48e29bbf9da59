-- The definitions give each of the paper's cases [t] its answer, by computation. Assumes nothing.
use mathlib.Core.Path.{◌≡◌, refl}
use mathlib.Core.List.{map}
use Rattle.section.specs.Digits.{end_from, end_of}
use Rattle.section.specs.Sum.{plus_of}
use Rattle.section.specs.Walk.{trail_from, trail_of}
use Rattle.section.specs.Word.{word}
use Rattle.section.specs.View.{part_from}
use Rattle.entry.specs.Index.{content_of}
use Rattle.lsda.specs.Header.{byte_at, base_at, types_at, table_at, header_of}
use Rattle.lsda.specs.Site.{pair_at, summed_of, fields_at, site_at, fits_of, settled_of}
use Rattle.lsda.specs.Sites.{covers_of, find_in, call_site_of}
use Rattle.pointer.specs.Number.{ended, leb_of, fixed_of, unsigned_of, signed_of}
use Rattle.pointer.specs.Pointer.{sized, uleb_of, sleb_of, pointer_of, formed}
use Rattle.section.specs.Rule.{words_rule}
use Rattle.instruction.specs.Bytes.{byte_of}
use Rattle.instruction.specs.Decode.{pop_mask, to_sp, pop_run, low_mask, long_of, pop_long, vfp_pop, single_of, opcode_of, decode_of}
use Rattle.edges.specs.Cases.{Case, joined, rows_of, content_rows, answer_of, cases}

pub all_hold : map (λ (c : Case). answer_of c.asked) cases ≡ map (λ (c : Case). c.answer) cases
unfolding plus_of trail_from trail_of byte_at base_at types_at table_at header_of pair_at summed_of fields_at site_at fits_of settled_of covers_of find_in call_site_of fixed_of uleb_of pointer_of end_from end_of ended leb_of unsigned_of signed_of sized sleb_of formed words_rule byte_of pop_mask to_sp pop_run low_mask long_of pop_long vfp_pop single_of opcode_of decode_of word part_from content_of joined rows_of content_rows answer_of cases
all_hold = refl
