-- `plane_claims`: the claims of specs/Claims.antt. Assumes nothing.
use mathlib.Core.Path.{◌≡◌, sym, ap, ap₂, ◌∙◌, subst}
use mathlib.Core.List.{List, [], ◌∷◌, ◌++◌, map, Memᴰ}
use Prim.Native.Nat.{ℕ, zero, suc, ◌+◌, ◌*◌, ◌≤◌, ◌<◌, ◌^◌}
use native.Mathlib.Nat.{suc-mul, mul-le-mul}
use native.Mathlib.Omega.{arith}
use lib.IntN.{ℤ, pos}
use lib.ListN.{length, get_or, take, drop, length-append, length-map, get_or-map, get_or-append}
use lib.Seq.{take-append_seam, drop-append_seam, get_or-append-add, get_or-take}
use Rattle.refusal.specs.Answer.{Answer, given, refused, filled}
use Rattle.sequence.specs.UpTo.{up_to}
use Rattle.sequence.proofs.UpTo.{length_up_to, get_d_up_to, up_to_take, up_to_same}
use Rattle.sequence.proofs.Members.{member}
use Rattle.signed_digit.specs.String.{DigitString}
use Rattle.signed_digit.specs.Forms.{listing}
use Rattle.signed_digit.specs.Masks.{plus_mask, minus_mask}
use Rattle.signed_digit.specs.Value.{value}
use Rattle.signed_digit.proofs.Listing.{listing_is}
use Rattle.form_masks.specs.Form.{form_of, string_of, TwoMasks}
use Rattle.form_masks.specs.Value.{value_of}
use Rattle.form_masks.proofs.Forms.{string_form}
use Rattle.plane_masks.specs.Planes.{cell_string, scaled_sum, cell_mask, cell_masks, plane_words_of, past_cleared, cell_at, join_rows, form_in}
use Rattle.plane_masks.specs.Grid.{chosen, chosen_forms, planes_answer, cells_answer}
use Rattle.plane_masks.specs.Written.{grid_words, PlanesWritten, PlanesRead}
use Rattle.plane_masks.specs.Claims.{CanWrite, CanRead, Planes, Returned, Cells, AllBelow, PlaneClaims}
use Rattle.plane_masks.proofs.Lists.{listed}
use Rattle.plane_masks.proofs.Planes.{words_length, words_back}
use Rattle.plane_masks.proofs.Strings.{scaled_value, form_is, string_is, value_is, two_masks}
use Rattle.plane_masks.proofs.Held.{string_held, past_held, apart_held}
use Rattle.plane_masks.proofs.Answers.{few_cells, can_write, writes, writing_refused, can_read, reads, reading_refused}

-- ---- a table after a refusal
kept : (a : Answer (Unit {0})) (words old table : List ℕ) (number place : ℕ) → table ≡ filled a words old → a ≡ refused number place → table ≡ old
kept a words old table number place e r = e ∙ ap (λ (b : Answer (Unit {0})). filled b words old) r

writing_kept : (height width : ℕ) (coefficients : List ℤ) (choices plus minus : List ℕ) (number place : ℕ) (plus' minus' : List ℕ)
    → PlanesWritten height width coefficients choices plus minus (refused number place) plus' minus' → (plus' ≡ plus) × (minus' ≡ minus)
writing_kept height width coefficients choices plus minus number place plus' minus' w =
    let a = planes_answer height width coefficients choices (length plus) (length minus) in (
      kept a (grid_words plus_mask height width coefficients choices) plus plus' number place w.plus_left (sym w.answer),
      kept a (grid_words minus_mask height width coefficients choices) minus minus' number place w.minus_left (sym w.answer),
    )

reading_kept : (height width : ℕ) (plus minus first second : List ℕ) (number place : ℕ) (first' second' : List ℕ)
    → PlanesRead height width plus minus first second (refused number place) first' second' → (first' ≡ first) × (second' ≡ second)
reading_kept height width plus minus first second number place first' second' r =
    let a = cells_answer height width plus minus (length first) (length second) in (
      kept a (cell_masks (height * width) plus) first first' number place r.plus_left (sym r.answer),
      kept a (cell_masks (height * width) minus) second second' number place r.minus_left (sym r.answer),
    )

-- ---- a grid that can be written
module _ (height width : ℕ) (coefficients : List ℤ) (choices : List ℕ) (pw mw : ℕ) (can : CanWrite height width coefficients choices pw mw) where
  abbrev cells : ℕ
  cells = height * width

  abbrev strings : List DigitString
  strings = chosen_forms cells coefficients choices

  few : cells ≤ 256
  few = few_cells height width can.fits.height_to can.fits.width_to

  strings_length : length strings ≡ cells
  unfolding chosen_forms
  strings_length = length_up_to cells (chosen coefficients choices)

  string_at : (c : ℕ) → c < cells → get_or strings c [] ≡ chosen coefficients choices c
  unfolding chosen_forms
  string_at c h = get_d_up_to cells (chosen coefficients choices) [] c h

  in_listing : (c : ℕ) → c < cells → Memᴰ (chosen coefficients choices c) (listing 32 (get_or coefficients c (pos 0)))
  in_listing c h = member [] (listing 32 (get_or coefficients c (pos 0))) (get_or choices c 0) (can.forms c h).below

  places : (c : ℕ) → c < cells → length (get_or strings c []) ≡ 32
  places c h = ap length (string_at c h) ∙ ((listing_is 32 (get_or coefficients c (pos 0))).only (chosen coefficients choices c) (in_listing c h)).0

  coefficient_is : (c : ℕ) → c < cells → value (get_or strings c []) ≡ get_or coefficients c (pos 0)
  coefficient_is c h = ap value (string_at c h) ∙ ((listing_is 32 (get_or coefficients c (pos 0))).only (chosen coefficients choices c) (in_listing c h)).1.has_value

  -- the tables, whatever lies past their words
  module _ (more_plus more_minus : List ℕ) where
    abbrev plus : List ℕ
    plus = plane_words_of (map plus_mask strings) ++ more_plus

    abbrev minus : List ℕ
    minus = plane_words_of (map minus_mask strings) ++ more_minus

    string_of_lem : (c : ℕ) → c < cells → cell_string plus minus c ≡ get_or strings c []
    string_of_lem c h = string_held strings more_plus more_minus c (omega (arith, few)) (places c h)

    strings_are : up_to cells (cell_string plus minus) ≡ strings
    strings_are = listed [] (cell_string plus minus) strings strings_length string_of_lem

    sums_are : up_to cells (scaled_sum plus minus) ≡ take cells coefficients
    sums_are =
        up_to_same (scaled_sum plus minus) (λ (c : ℕ). get_or coefficients c (pos 0)) cells
        (λ c h. scaled_value plus minus c ∙ ap value (string_of_lem c h) ∙ coefficient_is c h)
        ∙ up_to_take coefficients (pos 0) cells can.fits.first_long

    -- reading accepts them
    can_read_back : (first second : ℕ) → cells ≤ first → cells ≤ second → CanRead height width plus minus first second
    can_read_back first second h k = record {
      fits = record {
        height_from = can.fits.height_from;
        height_to = can.fits.height_to;
        width_from = can.fits.width_from;
        width_to = can.fits.width_to;
        plus_long = omega (arith, words_length (map plus_mask strings), length-append (plane_words_of (map plus_mask strings)) more_plus);
        minus_long = omega (arith, words_length (map minus_mask strings), length-append (plane_words_of (map minus_mask strings)) more_minus);
        first_long = h;
        second_long = k;
      };
      apart = λ c l. apart_held strings more_plus more_minus c (omega (arith, few));
    }

    form_of_lem : (c : ℕ) → c < cells → record { plus = cell_mask plus c; minus = cell_mask minus c } ≡ form_of (get_or strings c [])
    form_of_lem c h = sym (form_is plus minus c (apart_held strings more_plus more_minus c (omega (arith, few)))) ∙ ap form_of (string_of_lem c h)

-- ---- what writing left
module _ (height width : ℕ) (coefficients : List ℤ) (choices plus minus plus' minus' : List ℕ) (w : PlanesWritten height width coefficients choices plus minus (given tt) plus' minus') where
  abbrev written_forms : List DigitString
  written_forms = chosen_forms (height * width) coefficients choices

  accepted : CanWrite height width coefficients choices (length plus) (length minus)
  accepted = can_write height width coefficients choices (length plus) (length minus) (sym w.answer)

  abbrev plus_words_lem : List ℕ
  plus_words_lem = plane_words_of (map plus_mask written_forms)

  abbrev minus_words_lem : List ℕ
  minus_words_lem = plane_words_of (map minus_mask written_forms)

  plus_is : plus' ≡ plus_words_lem ++ drop (length plus_words_lem) plus
  plus_is = w.plus_left ∙ ap (λ (a : Answer (Unit {0})). filled a plus_words_lem plus) (sym w.answer)

  minus_is : minus' ≡ minus_words_lem ++ drop (length minus_words_lem) minus
  minus_is = w.minus_left ∙ ap (λ (a : Answer (Unit {0})). filled a minus_words_lem minus) (sym w.answer)

  -- what stands past the words
  seam : (words old : List ℕ) → length words ≡ 128 → drop 128 (words ++ drop (length words) old) ≡ drop 128 old
  seam words old e =
      ap (λ (n : ℕ). drop n (words ++ drop (length words) old)) (sym e) ∙ drop-append_seam words (drop (length words) old) ∙ ap (λ (n : ℕ). drop n old) e

  pub planes_left : Planes (height * width) coefficients choices plus minus plus' minus'
  planes_left =
      let a = accepted in
      let p = drop (length plus_words_lem) plus in
      let m = drop (length minus_words_lem) minus in
      let l = strings_length height width coefficients choices (length plus) (length minus) a in
      rw (plus_is, minus_is) (record {
        listed = in_listing height width coefficients choices (length plus) (length minus) a;
        strings = strings_are height width coefficients choices (length plus) (length minus) a p m;
        adds_up = sums_are height width coefficients choices (length plus) (length minus) a p m;
        past = λ q c h k r. past_held written_forms p m q c h (omega (arith, l)) r;
        apart = λ c h. apart_held written_forms p m c h;
        plus_past = seam plus_words_lem plus (words_length (map plus_mask written_forms));
        minus_past = seam minus_words_lem minus (words_length (map minus_mask written_forms));
      })

-- ---- row by row
joined_at : (width : ℕ) (rows : List (List ℤ)) → ((r : ℕ) → r < length rows → length (get_or rows r []) ≡ width) → (row column : ℕ) → row < length rows → column < width
    → get_or (join_rows rows) (row * width + column) (pos 0) ≡ get_or (get_or rows row []) column (pos 0)
unfolding join_rows
joined_at width [] wide row column h k = absurd (omega arith)
joined_at width (r ∷ rows) wide zero column h k =
    let e : 0 * width + column ≡ column = omega arith in
    ap (λ (i : ℕ). get_or (r ++ join_rows rows) i (pos 0)) e ∙ get_or-append r (join_rows rows) (pos 0) column (omega (arith, wide 0 (omega arith)))
joined_at width (r ∷ rows) wide (suc row) column h k =
    let e : suc row * width + column ≡ length r + (row * width + column) = omega (arith, wide 0 (omega arith), suc-mul row width) in
    ap (λ (i : ℕ). get_or (r ++ join_rows rows) i (pos 0)) e
    ∙ get_or-append-add r (join_rows rows) (row * width + column) (pos 0)
    ∙ joined_at width rows (λ i l. wide (suc i) (omega arith)) row column (omega arith) k

cell_inside : (height width row column : ℕ) → row < height → column < width → cell_at width row column < height * width
cell_inside height width row column h k =
    let same : width ≤ width = omega arith in
    let rows : suc row * width ≤ height * width = mul-le-mul h same in
    omega (arith, suc-mul row width, rows)

grid_at : (width : ℕ) (rows : List (List ℤ)) → ((r : ℕ) → r < length rows → length (get_or rows r []) ≡ width)
    → (choices plus minus plus' minus' : List ℕ) → PlanesWritten (length rows) width (join_rows rows) choices plus minus (given tt) plus' minus'
    → (row column : ℕ) → row < length rows → column < width → scaled_sum plus' minus' (cell_at width row column) ≡ get_or (get_or rows row []) column (pos 0)
grid_at width rows wide choices plus minus plus' minus' w row column h k =
    let cells : ℕ = length rows * width in
    let c : ℕ = cell_at width row column in
    let l : c < cells = cell_inside (length rows) width row column h k in
    sym (get_d_up_to cells (scaled_sum plus' minus') (pos 0) c l)
    ∙ ap (λ (sums : List ℤ). get_or sums c (pos 0)) (planes_left (length rows) width (join_rows rows) choices plus minus plus' minus' w).adds_up
    ∙ get_or-take cells (join_rows rows) c (pos 0) l
    ∙ joined_at width rows wide row column h k

-- ---- what reading left
module _ (height width : ℕ) (plus minus first second first' second' : List ℕ) (r : PlanesRead height width plus minus first second (given tt) first' second') where
  abbrev read_cells : ℕ
  read_cells = height * width

  readable : CanRead height width plus minus (length first) (length second)
  readable = can_read height width plus minus (length first) (length second) (sym r.answer)

  masks_length : (table : List ℕ) → length (cell_masks read_cells table) ≡ read_cells
  unfolding cell_masks
  masks_length table = length_up_to read_cells (cell_mask table)

  first_is : first' ≡ cell_masks read_cells plus ++ drop (length (cell_masks read_cells plus)) first
  first_is = r.plus_left ∙ ap (λ (a : Answer (Unit {0})). filled a (cell_masks read_cells plus) first) (sym r.answer)

  second_is : second' ≡ cell_masks read_cells minus ++ drop (length (cell_masks read_cells minus)) second
  second_is = r.minus_left ∙ ap (λ (a : Answer (Unit {0})). filled a (cell_masks read_cells minus) second) (sym r.answer)

  -- the element of a cell
  mask_at : (table table' old : List ℕ) → table' ≡ cell_masks read_cells table ++ drop (length (cell_masks read_cells table)) old → (c : ℕ) → c < read_cells → get_or table' c 0 ≡ cell_mask table c
  unfolding cell_masks
  mask_at table table' old e c h =
      ap (λ (l : List ℕ). get_or l c 0) e
      ∙ get_or-append (up_to read_cells (cell_mask table)) (drop (length (up_to read_cells (cell_mask table))) old) 0 c (omega (arith, masks_length table))
      ∙ get_d_up_to read_cells (cell_mask table) 0 c h

  pub form_at : (c : ℕ) → c < read_cells → form_in first' second' c ≡ record { plus = cell_mask plus c; minus = cell_mask minus c }
  form_at c h = ap₂ (λ (x y : ℕ). record { plus = x; minus = y }) (mask_at plus first' first first_is c h) (mask_at minus second' second second_is c h)

  -- the front of a table, and what stands past it
  front_is : (table table' old : List ℕ) → table' ≡ cell_masks read_cells table ++ drop (length (cell_masks read_cells table)) old → take read_cells table' ≡ cell_masks read_cells table
  front_is table table' old e =
      ap (take read_cells) e
      ∙ ap (λ (n : ℕ). take n (cell_masks read_cells table ++ drop (length (cell_masks read_cells table)) old)) (sym (masks_length table))
      ∙ take-append_seam (cell_masks read_cells table) (drop (length (cell_masks read_cells table)) old)

  past_is : (table table' old : List ℕ) → table' ≡ cell_masks read_cells table ++ drop (length (cell_masks read_cells table)) old → drop read_cells table' ≡ drop read_cells old
  past_is table table' old e =
      ap (drop read_cells) e
      ∙ ap (λ (n : ℕ). drop n (cell_masks read_cells table ++ drop (length (cell_masks read_cells table)) old)) (sym (masks_length table))
      ∙ drop-append_seam (cell_masks read_cells table) (drop (length (cell_masks read_cells table)) old)
      ∙ ap (λ (n : ℕ). drop n old) (masks_length table)

  pub cells_left : Cells read_cells plus minus first second first' second'
  cells_left =
      let apart = readable.apart in
      record {
        two_masks = λ c h. subst TwoMasks (sym (form_at c h)) (two_masks plus minus c (apart c h));
        strings = up_to_same (λ (c : ℕ). string_of (form_in first' second' c)) (cell_string plus minus) read_cells (λ c h. ap string_of (form_at c h) ∙ string_is plus minus c (apart c h));
        values = up_to_same (λ (c : ℕ). value_of (form_in first' second' c)) (λ (c : ℕ). given (scaled_sum plus minus c)) read_cells (λ c h. ap value_of (form_at c h) ∙ value_is plus minus c (apart c h));
        plus_past = past_is plus first' first first_is;
        minus_past = past_is minus second' second second_is;
      }

  pub words_again : AllBelow (2 ^ 64) plus → AllBelow (2 ^ 64) minus
      → (plane_words_of (take read_cells first') ≡ past_cleared read_cells plus) × (plane_words_of (take read_cells second') ≡ past_cleared read_cells minus)
  words_again p m =
      let few = few_cells height width readable.fits.height_to readable.fits.width_to in (
        ap plane_words_of (front_is plus first' first first_is) ∙ words_back read_cells plus few p,
        ap plane_words_of (front_is minus second' second second_is) ∙ words_back read_cells minus few m,
      )

-- ---- there and back
module _ (height width : ℕ) (coefficients : List ℤ) (choices plus minus plus' minus' : List ℕ) (w : PlanesWritten height width coefficients choices plus minus (given tt) plus' minus')
    (first second : List ℕ) (a : Answer (Unit {0})) (first' second' : List ℕ) (h : height * width ≤ length first) (k : height * width ≤ length second)
    (r : PlanesRead height width plus' minus' first second a first' second') where
  abbrev forms_back : List DigitString
  forms_back = chosen_forms (height * width) coefficients choices

  can : CanWrite height width coefficients choices (length plus) (length minus)
  can = accepted height width coefficients choices plus minus plus' minus' w

  abbrev past_plus : List ℕ
  past_plus = drop (length (plane_words_of (map plus_mask forms_back))) plus

  abbrev past_minus : List ℕ
  past_minus = drop (length (plane_words_of (map minus_mask forms_back))) minus

  tables_are : (f : List ℕ → List ℕ → Type 0) → f (plane_words_of (map plus_mask forms_back) ++ past_plus) (plane_words_of (map minus_mask forms_back) ++ past_minus) → f plus' minus'
  tables_are f x =
      rw (plus_is height width coefficients choices plus minus plus' minus' w, minus_is height width coefficients choices plus minus plus' minus' w) x

  is_accepted : a ≡ given tt
  is_accepted =
      r.answer
      ∙ reads height width plus' minus' (length first) (length second)
      (tables_are (λ p m. CanRead height width p m (length first) (length second))
      (can_read_back height width coefficients choices (length plus) (length minus) can past_plus past_minus (length first) (length second) h k))

  given_read : PlanesRead height width plus' minus' first second (given tt) first' second'
  given_read = subst (λ (b : Answer (Unit {0})). PlanesRead height width plus' minus' first second b first' second') is_accepted r

  form_back : (c : ℕ) → c < height * width → form_in first' second' c ≡ form_of (get_or forms_back c [])
  form_back c l =
      form_at height width plus' minus' first second first' second' given_read c l
      ∙ tables_are (λ p m. record { plus = cell_mask p c; minus = cell_mask m c } ≡ form_of (get_or forms_back c []))
      (form_of_lem height width coefficients choices (length plus) (length minus) can past_plus past_minus c l)

  pub returned : Returned (height * width) coefficients choices a first' second'
  returned =
      let n = strings_length height width coefficients choices (length plus) (length minus) can in
      record {
        accepted = is_accepted;
        forms = listed (form_of []) (form_in first' second') (map form_of forms_back) (length-map forms_back form_of ∙ n) (λ c l. form_back c l ∙ sym (get_or-map form_of forms_back c []));
        strings = listed [] (λ (c : ℕ). string_of (form_in first' second' c)) forms_back n
            (λ c l. ap string_of (form_back c l) ∙ string_form (get_or forms_back c []) (places height width coefficients choices (length plus) (length minus) can c l));
      }

pub plane_claims : PlaneClaims
plane_claims = record {
  written = planes_left;
  row_by_row = grid_at;
  there_and_back = returned;
  read = cells_left;
  back_and_there = words_again;
  writes = λ height width coefficients choices plus minus a plus' minus' w. (
    λ e. can_write height width coefficients choices (length plus) (length minus) (sym w.answer ∙ e),
    λ can. w.answer ∙ writes height width coefficients choices (length plus) (length minus) can,
  );
  reads = λ height width plus minus first second a first' second' r. (
    λ e. can_read height width plus minus (length first) (length second) (sym r.answer ∙ e),
    λ can. r.answer ∙ reads height width plus minus (length first) (length second) can,
  );
  writing_refused = λ height width coefficients choices plus minus number place plus' minus' w.
      let k = writing_kept height width coefficients choices plus minus number place plus' minus' w in
      (writing_refused height width coefficients choices (length plus) (length minus) number place (sym w.answer), k.0, k.1);
  reading_refused = λ height width plus minus first second number place first' second' r.
      let k = reading_kept height width plus minus first second number place first' second' r in
      (reading_refused height width plus minus (length first) (length second) number place (sym r.answer), k.0, k.1);
}
