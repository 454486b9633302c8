-- Canvases and what they stand for.
use Rattle.std.proofs.Common.{◌≡◌, ◌⊎◌, inl, inr, ◌<◌, ◌≤◌, ◌+◌, ◌-◌, ◌*◌, ◌/◌, ◌%◌, ◌^◌, ◌&&◌, ℕ, Bool, true, false}
use Rattle.std.proofs.Common.{cond, List, [], ◌∷◌, ◌++◌, length, get_or, take, drop, map, replicate, All, Option}
use Rattle.std.proofs.Common.{Some, None, is_some, unwrap_or, refl, sym, ap, ◌∙◌, subst, arith, pow_pos}
use Rattle.std.specs.List.{range_with_len}
use Rattle.std.specs.Option.{option_or}
use Rattle.std.specs.Prelude.{nat_le, nat_lt}
use Rattle.std.proofs.lemmas.Bool.{cases_lt, ltb-true, ltb-false, leb-true, leb-false}
use Rattle.std.proofs.lemmas.List.{ext_get_or, get_or_past, get_or-replicate, length-replicate, take_at}
use Rattle.std.proofs.lemmas.Grind.{get_or_default_zero}
use Rattle.std.proofs.lemmas.List.FromFn.{get_or-map-range_with_len, length-map-range_with_len}
use Rattle.lr_image.specs.Picture.{IsPicture}
use Rattle.lr_image.specs.Shapes.{most_pixels}
use Rattle.lr_segment.specs.declared.rows.Place.{Place}
use Rattle.lr_segment.specs.Rows.{IsBeside, IsCovered, IsIn, IsOverwritten}
use Rattle.lr_segment.specs.Canvas.{AddsMember, Canvas, canvas, IsCanvas, Member, CanvasStandsFor, covered_of, covers}
use Rattle.lr_segment.specs.Canvas.{pixel_given_by}
use Rattle.lr_segment.specs.Canvas.{own_pixel, pixel_at, pixels_of}

replicate-map : {X : Type 0} (x : X) (n : ℕ) → replicate n x ≡ map (λ k. x) (range_with_len 0 n)
replicate-map x n =
    ext_get_or x (replicate n x) (map (λ k. x) (range_with_len 0 n)) (length-replicate n x
    ∙ sym (length-map-range_with_len (λ k. x) 0 n))
    (λ i inside.
    let within : i < n = omega (arith, length-replicate n x) in
    get_or-replicate n i x x within ∙ sym (get_or-map-range_with_len (λ k. x) 0 n i i x within (omega arith)))

pub no_members : (bits columns lines : ℕ) (pixels : List ℕ) (covered : List Bool)
    → pixels ≡ replicate (columns * lines) 0 → covered ≡ replicate (columns * lines) false
    → CanvasStandsFor (canvas bits columns lines pixels covered) []
no_members bits columns lines pixels covered are none = record {
  pixels = are ∙ replicate-map 0 (columns * lines);
  covered = none ∙ replicate-map false (columns * lines);
}

pub new_canvas : (bits columns lines : ℕ) (pixels : List ℕ) (covered : List Bool) → 1 ≤ bits → bits ≤ 16
    → 1 ≤ columns → columns * lines ≤ most_pixels
    → pixels ≡ replicate (columns * lines) 0 → covered ≡ replicate (columns * lines) false
    → IsCanvas (canvas bits columns lines pixels covered)
new_canvas bits columns lines pixels covered least most some few are none = record {
  least = least;
  most = most;
  columns = some;
  few = few;
  whole = ap length are ∙ length-replicate (columns * lines) 0;
  noted = ap length none ∙ length-replicate (columns * lines) false;
  small = λ k d inside.
      let size : length pixels ≡ columns * lines = ap length are ∙ length-replicate (columns * lines) 0 in
      let zero : get_or pixels k d ≡ 0 = ap (λ (l : List ℕ). get_or l k d) are
      ∙ get_or-replicate (columns * lines) k 0 d (omega arith) in
      let power : 0 < 2 ^ bits = pow_pos bits in
      omega arith;
}

-- ---- one member more

or_none : (o : Option ℕ) → option_or o None ≡ o
or_none None = refl
or_none (Some x) = refl

or_assoc : (a b c : Option ℕ) → option_or (option_or a b) c ≡ option_or a (option_or b c)
or_assoc None b c = refl
or_assoc (Some x) b c = refl

pub pixel_at-push : (members : List Member) (m : Member) (column line : ℕ)
    → pixel_at (members ++ m ∷ []) column line ≡ option_or (pixel_given_by m column line) (pixel_at members column line)
pixel_at-push [] m column line = sym (or_none (pixel_given_by m column line))
pixel_at-push (x ∷ members) m column line =
    ap (λ (o : Option ℕ). option_or o (pixel_given_by x column line)) (pixel_at-push members m column line)
    ∙ or_assoc (pixel_given_by m column line) (pixel_at members column line) (pixel_given_by x column line)

-- where the member stands, as rows
abbrev pub place_of_member : ℕ → Member → Place
place_of_member whole m = record {
  whole = whole;
  column = m.segment.start_column;
  line = m.segment.start_line;
  width = m.picture.columns;
}

both_true : (a b : Bool) → (a && b) ≡ true → (a ≡ true) × (b ≡ true)
both_true true b h = (refl, h)
both_true false b h = absurd (cc)

one_false : (a b : Bool) → (a && b) ≡ false → (a ≡ false) ⊎ (b ≡ false)
one_false true b h = inr h
one_false false b h = inl refl

covered_in : (whole k : ℕ) (m : Member) → covers m (k % whole) (k / whole) ≡ true
    → IsIn (place_of_member whole m) m.picture.lines k
covered_in whole k m h =
    let column = k % whole in
    let line = k / whole in
    let both = both_true (nat_le m.segment.start_column column && nat_lt column
    (m.segment.start_column + m.picture.columns)) (nat_le m.segment.start_line line && nat_lt line
    (m.segment.start_line + m.picture.lines)) h in
    let across = both_true (nat_le m.segment.start_column column)
    (nat_lt column (m.segment.start_column + m.picture.columns)) both.0 in
    let down = both_true (nat_le m.segment.start_line line)
    (nat_lt line (m.segment.start_line + m.picture.lines)) both.1 in
    record {
      right = leb-true _ _ across.0;
      inside = ltb-true _ _ across.1;
      below = leb-true _ _ down.0;
      above = ltb-true _ _ down.1;
    }

outside_one : (start column size : ℕ) → (nat_le start column && nat_lt column (start + size)) ≡ false
    → (column < start) ⊎ (start + size ≤ column)
outside_one start column size h = elim (one_false (nat_le start column) (nat_lt column (start + size)) h) [
  | inl left ↦ inl (leb-false _ _ left)
  | inr right ↦ inr (ltb-false _ _ right)
]

covered_beside : (whole k : ℕ) (m : Member) → covers m (k % whole) (k / whole) ≡ false
    → IsBeside (place_of_member whole m) m.picture.lines k
covered_beside whole k m h =
    let column = k % whole in
    let line = k / whole in
    elim (one_false (nat_le m.segment.start_column column && nat_lt column
    (m.segment.start_column + m.picture.columns)) (nat_le m.segment.start_line line && nat_lt line
    (m.segment.start_line + m.picture.lines)) h) [
      | inl across ↦ inl (outside_one m.segment.start_column column m.picture.columns across)
      | inr down ↦ inr (outside_one m.segment.start_line line m.picture.lines down)
    ]

-- what a place has after the member was added
pixel_by : (b : Bool) (own : ℕ) (old : Option ℕ)
    → unwrap_or (option_or (cond b (Some own) None) old) 0 ≡ cond b own (unwrap_or old 0)
pixel_by true own old = refl
pixel_by false own old = refl

some_by : (b : Bool) (own : ℕ) (old : Option ℕ) → is_some (option_or (cond b (Some own) None) old) ≡ cond b true
    (is_some old)
some_by true own old = refl
some_by false own old = refl

pixel_here : (whole k : ℕ) (m : Member) (old new : List ℕ) (b : Bool) → covers m (k % whole) (k / whole) ≡ b
    → IsOverwritten (place_of_member whole m) m.picture.lines m.picture.pixels old new → k < length old
    → get_or new k 0 ≡ cond b (own_pixel m (k % whole) (k / whole)) (get_or old k 0)
pixel_here whole k m old new true is written inside = written.here k inside (covered_in whole k m is)
pixel_here whole k m old new false is written inside = written.beside k inside (covered_beside whole k m is)

note_here : (whole k : ℕ) (m : Member) (old new : List Bool) (b : Bool) → covers m (k % whole) (k / whole) ≡ b
    → IsCovered (place_of_member whole m) m.picture.lines old new → k < length old
    → get_or new k false ≡ cond b true (get_or old k false)
note_here whole k m old new true is written inside = written.here k inside (covered_in whole k m is)
note_here whole k m old new false is written inside = written.beside k inside (covered_beside whole k m is)

pub adds : (c : Canvas) (m : Member) (pixels : List ℕ) (covered : List Bool) → IsCanvas c
    → IsOverwritten (place_of_member c.columns m) m.picture.lines m.picture.pixels c.pixels pixels
    → IsCovered (place_of_member c.columns m) m.picture.lines c.covered covered
    → AddsMember c m (canvas c.bits c.columns c.lines pixels covered)
adds c m pixels covered is over noted = record {
  bits = refl;
  columns = refl;
  lines = refl;
  stands = λ members stands.
      let whole = c.columns in
      let n = c.columns * c.lines in
      let size : length pixels ≡ n = over.size ∙ is.whole in
      let notes : length covered ≡ n = noted.size ∙ is.noted in
      let after = members ++ m ∷ [] in
      let pixel_f = λ (ms : List Member) (k : ℕ). unwrap_or (pixel_at ms (k % whole) (k / whole)) 0 in
      let note_f = λ (ms : List Member) (k : ℕ). is_some (pixel_at ms (k % whole) (k / whole)) in
      record {
        pixels = ext_get_or 0 pixels (pixels_of whole c.lines after)
            (size ∙ sym (length-map-range_with_len (pixel_f after) 0 n))
            (λ k inside.
            let within : k < n = omega arith in
            let old : get_or c.pixels k 0 ≡ pixel_f members k =
            ap (λ (l : List ℕ). get_or l k 0) stands.pixels
            ∙ get_or-map-range_with_len (pixel_f members) 0 n k k 0 within (omega arith) in
            let b = covers m (k % whole) (k / whole) in
            let own = own_pixel m (k % whole) (k / whole) in
            let before : k < length c.pixels = omega (arith, is.whole) in
            pixel_here whole k m c.pixels pixels b refl over before
            ∙ ap (λ (o : ℕ). cond b own o) old ∙ sym (pixel_by b own (pixel_at members (k % whole) (k / whole)))
            ∙ ap (λ (o : Option ℕ). unwrap_or o 0) (sym (pixel_at-push members m (k % whole) (k / whole)))
            ∙ sym (get_or-map-range_with_len (pixel_f after) 0 n k k 0 within (omega arith)));
        covered = ext_get_or false covered (covered_of whole c.lines after)
            (notes ∙ sym (length-map-range_with_len (note_f after) 0 n))
            (λ k inside.
            let within : k < n = omega arith in
            let old : get_or c.covered k false ≡ note_f members k =
            ap (λ (l : List Bool). get_or l k false) stands.covered
            ∙ get_or-map-range_with_len (note_f members) 0 n k k false within (omega arith) in
            let b = covers m (k % whole) (k / whole) in
            let own = own_pixel m (k % whole) (k / whole) in
            let before : k < length c.covered = omega (arith, is.noted) in
            note_here whole k m c.covered covered b refl noted before
            ∙ ap (λ (o : Bool). cond b true o) old ∙ sym (some_by b own (pixel_at members (k % whole) (k / whole)))
            ∙ ap is_some (sym (pixel_at-push members m (k % whole) (k / whole)))
            ∙ sym (get_or-map-range_with_len (note_f after) 0 n k k false within (omega arith)));
      };
}

small_or : (limit : ℕ) (pixels : List ℕ) (j : ℕ) → 0 < limit → All (λ pixel. pixel < limit) pixels
    → get_or pixels j 0 < limit
small_or limit pixels j some small =
    elim (cases_lt j (length pixels)) [
      | inl inside ↦ small j 0 inside
      | inr past ↦ subst (λ (x : ℕ). x < limit) (sym (get_or_past pixels j 0 past)) some
    ]

cond_small : (limit a b : ℕ) (c : Bool) → a < limit → b < limit → cond c a b < limit
cond_small limit a b true first second = first
cond_small limit a b false first second = second

canvas_more : (c : Canvas) (m : Member) (pixels : List ℕ) (covered : List Bool) → IsCanvas c
    → IsPicture m.picture → c.bits ≡ m.picture.bits
    → IsOverwritten (place_of_member c.columns m) m.picture.lines m.picture.pixels c.pixels pixels
    → IsCovered (place_of_member c.columns m) m.picture.lines c.covered covered
    → IsCanvas (canvas c.bits c.columns c.lines pixels covered)
canvas_more c m pixels covered is picture depth over noted = record {
  least = is.least;
  most = is.most;
  columns = is.columns;
  few = is.few;
  whole = over.size ∙ is.whole;
  noted = noted.size ∙ is.noted;
  small = λ k d inside.
      let limit = 2 ^ c.bits in
      let some : 0 < limit = pow_pos c.bits in
      let whole = c.columns in
      let b = covers m (k % whole) (k / whole) in
      let own = own_pixel m (k % whole) (k / whole) in
      let size = over.size in
      let theirs : All (λ pixel. pixel < limit) m.picture.pixels = subst (λ (n : ℕ). All
      (λ pixel. pixel < 2 ^ n) m.picture.pixels) (sym depth) picture.small in
      let here : get_or pixels k 0 ≡ cond b own
      (get_or c.pixels k 0) = pixel_here whole k m c.pixels pixels b refl over (omega arith) in
      let small : cond b own (get_or c.pixels k 0) < limit =
      cond_small limit own (get_or c.pixels k 0) b
      (small_or limit m.picture.pixels ((k / whole - m.segment.start_line) * m.picture.columns +
      (k % whole - m.segment.start_column)) some theirs)
      (small_or limit c.pixels k some is.small) in
      let default : get_or pixels k d ≡ get_or pixels k 0 = get_or_default_zero pixels k d inside in
      omega arith;
}

-- all that a call of `put_lines` is to show
pub record AddsTo (c : Canvas) (m : Member) (pixels : List ℕ) (covered : List Bool) : Type 0 where
  pub canvas_is : IsCanvas (canvas c.bits c.columns c.lines pixels covered)
  pub adds : AddsMember c m (canvas c.bits c.columns c.lines pixels covered)
  pub pixels_size : length pixels ≡ length c.pixels
  pub covered_size : length covered ≡ length c.covered

place_from : {a b c d p q r s : ℕ} → a ≡ p → b ≡ q → c ≡ r → d ≡ s
    → ◌≡◌ {A = Place} (record { whole = a; column = b; line = c; width = d })
    (record { whole = p; column = q; line = r; width = s })
place_from e f g h = rw (e, f, g, h) refl

pub adds_by : (c : Canvas) (m : Member) (place : Place) (lines : ℕ) (segment old new : List ℕ)
    (held noted : List Bool) → IsCanvas c → IsPicture m.picture → c.bits ≡ m.picture.bits
    → place.whole ≡ c.columns → place.column ≡ m.segment.start_column → place.line ≡ m.segment.start_line
    → place.width ≡ m.picture.columns
    → lines ≡ m.picture.lines → segment ≡ m.picture.pixels → old ≡ c.pixels → held ≡ c.covered
    → IsOverwritten place lines segment old new → IsCovered place lines held noted → AddsTo c m new noted
adds_by c m place lines segment old new held noted is picture depth whole column line width rows pixels before
    covered over notes =
    let there : place ≡ place_of_member c.columns m = place_from whole column line width in
    let over' : IsOverwritten (place_of_member c.columns m) m.picture.lines m.picture.pixels c.pixels new =
    rw (there, rows, pixels, before) at over in
    let notes' : IsCovered (place_of_member c.columns m) m.picture.lines c.covered noted =
    rw (there, rows, covered) at notes in
    record {
      canvas_is = canvas_more c m new noted is picture depth over' notes';
      adds = adds c m new noted is over' notes';
      pixels_size = over'.size;
      covered_size = notes'.size;
    }

-- a list of the same size, written over all of another one
pub written_all : {X : Type 0} (old new : List X) (size : ℕ) → size ≡ length new
    → take size (new ++ drop (length new) old) ≡ new
written_all old new size is = take_at new (drop (length new) old) size (sym is)
