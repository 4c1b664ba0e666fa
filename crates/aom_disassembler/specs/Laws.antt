-- What a listing is as a text.
use Rattle.std.specs.Prelude.{◌≡◌}
use Rattle.aom_text.specs.Text.{in_line, statements}
use Rattle.aom_image.specs.Image.{Image}
use Rattle.aom_image.specs.WellFormed.{WellFormed}
use Rattle.aom_disassembler.specs.Listing.{listing, listing_text, placed}

-- the text of a listing splits into just its statements, one in each line
abbrev pub ListingsSplit : Type 0
ListingsSplit = (i : Image) → WellFormed i → statements (listing_text i) ≡ placed in_line 1 (listing i)
