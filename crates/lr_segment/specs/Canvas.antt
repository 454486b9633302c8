-- Segments of an image, put together.
use Rattle.std.specs.Prelude.{◌≡◌, ◌<◌, ◌≤◌, ◌+◌, ◌-◌, ◌*◌, ◌/◌, ◌%◌, ◌^◌, ◌==◌, ◌&&◌, ◌||◌, not, nat_le, nat_lt}
use Rattle.std.specs.Prelude.{if◌then◌else◌, ℕ, Bool, List, [], ◌∷◌, ◌++◌, length, map, All, count_by, Option, Some}
use Rattle.std.specs.Prelude.{None, is_some, unwrap_or, slice_index}
use Rattle.std.specs.List.{range_with_len}
use Rattle.std.specs.Option.{option_or}
use Rattle.lr_headers.specs.declared.fields.Segment.{Segment}
use Rattle.lr_image.specs.Picture.{Picture}
use Rattle.lr_image.specs.Shapes.{most_pixels}
use Rattle.lr_segment.specs.declared.fault.AssembleFault.{AssembleFault}
use Rattle.lr_segment.specs.declared.fault.AssembleFault.TheVariants.{Empty, TooLarge, Depths, Outside}

-- an image, and what its segment record says
pub record Member : Type 0 where
  pub picture : Picture
  pub segment : Segment

abbrev pub member : Picture → Segment → Member
member picture segment = record { picture = picture; segment = segment }

-- the member covers this column and this line of the whole image
abbrev pub covers : Member → ℕ → ℕ → Bool
covers m column line =
    (nat_le m.segment.start_column column && nat_lt column (m.segment.start_column + m.picture.columns))
    && (nat_le m.segment.start_line line && nat_lt line (m.segment.start_line + m.picture.lines))

-- the pixel that it has there
abbrev pub own_pixel : Member → ℕ → ℕ → ℕ
own_pixel m column line =
    slice_index m.picture.pixels ((line - m.segment.start_line) * m.picture.columns + (column - m.segment.start_column))

abbrev pub pixel_given_by : Member → ℕ → ℕ → Option ℕ
pixel_given_by m column line = if covers m column line then Some (own_pixel m column line) else None

-- the pixel of the last member that covers the place
abbrev pub pixel_at : List Member → ℕ → ℕ → Option ℕ
pixel_at [] column line = None
pixel_at (m ∷ members) column line = option_or (pixel_at members column line) (pixel_given_by m column line)

-- what is kept: an image, and for each of its pixels whether some member covers it
pub record Canvas : Type 0 where
  pub bits : ℕ
  pub columns : ℕ
  pub lines : ℕ
  pub pixels : List ℕ
  pub covered : List Bool

abbrev pub canvas : ℕ → ℕ → ℕ → List ℕ → List Bool → Canvas
canvas bits columns lines pixels covered =
    record { bits = bits; columns = columns; lines = lines; pixels = pixels; covered = covered }

-- the pixels of the whole image, line after line; 0 where no member covers
abbrev pub pixels_of : ℕ → ℕ → List Member → List ℕ
pixels_of columns lines members = map (λ k. unwrap_or (pixel_at members (k % columns) (k / columns)) 0)
    (range_with_len 0 (columns * lines))

abbrev pub covered_of : ℕ → ℕ → List Member → List Bool
covered_of columns lines members = map (λ k. is_some (pixel_at members (k % columns) (k / columns)))
    (range_with_len 0 (columns * lines))

-- how many pixels no member covers
abbrev pub uncovered_count : ℕ → ℕ → List Member → ℕ
uncovered_count columns lines members = count_by (λ one. not one) (covered_of columns lines members)

-- the canvas of these members, in their order
pub record CanvasStandsFor (c : Canvas) (members : List Member) : Type 0 where
  pub pixels : c.pixels ≡ pixels_of c.columns c.lines members
  pub covered : c.covered ≡ covered_of c.columns c.lines members

-- the canvas has the size that the segment names for the whole image, and this depth
pub record HasSizeOf (s : Segment) (bits : ℕ) (c : Canvas) : Type 0 where
  pub bits_are : c.bits ≡ bits
  pub columns_are : c.columns ≡ s.columns
  pub lines_are : c.lines ≡ s.lines

-- what holds of each canvas
pub record IsCanvas (c : Canvas) : Type 0 where
  pub least : 1 ≤ c.bits
  pub most : c.bits ≤ 16
  pub columns : 1 ≤ c.columns
  pub few : c.columns * c.lines ≤ most_pixels
  pub whole : length c.pixels ≡ c.columns * c.lines
  pub noted : length c.covered ≡ c.columns * c.lines
  pub small : All (λ pixel. pixel < 2 ^ c.bits) c.pixels

-- why no canvas is made for a segment
abbrev pub new_fault : Segment → Option AssembleFault
new_fault s =
    if (s.columns == 0) || (s.lines == 0) then Some Empty
    else (if nat_lt most_pixels (s.columns * s.lines) then Some (TooLarge (s.columns * s.lines)) else None)

-- why a member isn't added to a whole image of this depth and this size
abbrev pub place_fault : (bits columns lines : ℕ) → Member → Option AssembleFault
place_fault bits columns lines m =
    if not (bits == m.picture.bits) then Some (Depths bits m.picture.bits)
    else (if nat_lt columns (m.segment.start_column + m.picture.columns) || nat_lt lines
    (m.segment.start_line + m.picture.lines)
    then Some Outside else None)

abbrev pub add_fault : Canvas → Member → Option AssembleFault
add_fault c m = place_fault c.bits c.columns c.lines m

-- the member was added: whatever members the canvas stood for, it stands for them and this one
pub record AddsMember (old : Canvas) (m : Member) (new : Canvas) : Type 0 where
  pub bits : new.bits ≡ old.bits
  pub columns : new.columns ≡ old.columns
  pub lines : new.lines ≡ old.lines
  pub stands : (members : List Member) → CanvasStandsFor old members → CanvasStandsFor new (members ++ m ∷ [])

-- the image of these members, and how many of its pixels no member covers
pub record IsAssembled (c : Canvas) (members : List Member) (picture : Picture) (count : ℕ) : Type 0 where
  pub bits : picture.bits ≡ c.bits
  pub columns : picture.columns ≡ c.columns
  pub lines : picture.lines ≡ c.lines
  pub pixels : picture.pixels ≡ pixels_of c.columns c.lines members
  pub uncovered : count ≡ uncovered_count c.columns c.lines members

-- ---- members, of which the first gives the size and the depth

-- why a member isn't put together with those before it
abbrev pub member_fault : List Member → Member → Option AssembleFault
member_fault [] m =
    option_or (new_fault m.segment) (place_fault m.picture.bits m.segment.columns m.segment.lines m)
member_fault (first ∷ members) m = place_fault first.picture.bits first.segment.columns first.segment.lines m

-- the whole image of the first and these members, the first among them
abbrev pub whole_picture : Member → List Member → Picture
whole_picture first members = record {
  bits = first.picture.bits;
  columns = first.segment.columns;
  lines = first.segment.lines;
  pixels = pixels_of first.segment.columns first.segment.lines members;
}
