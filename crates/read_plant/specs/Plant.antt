-- The plant file: its layout, refusals 1 to 4, and the part that holds an action's allocations. A file is the list of its bytes.
--   is_mark s at         the four bytes at `at` are the mark
--   trailer_of s         index start and action count
--   bad_layout t len     refusal 2, of a file of len bytes with the trailer t
--   needs_true .. longest s at   the fields of the record that starts at `at`;  allocation_count s at: its byte n
--   allocation_start at k        where its allocation k starts;  resource, offset, use_length: the fields of an allocation
--   record_end s at      where the record that starts at `at` ends
--   record_start s a     where the record of action a has to start: where the record before ended
--   bad_record s t a at  refusal 3 of action a, whose record has to start at `at`;  bad_head s at: its count and spare bytes
--   bad_action s at      refusal 4 of the action whose record starts at `at`, by bad_duration, out_of_range, bad_allocation and some_bad_allocation
--   record_at s t a at   what reading that record finds: where it ends, or the cause;  record_ruling s a: the ruling on action a
--   plant_ruling s       the first of refusals 1 to 4
--   allocations_of s a   the part of a good file that holds the allocations of action a
use Rattle.std.specs.Prelude.{ℕ, zero, suc, ◌+◌, ◌-◌, ◌*◌, List, [], Bool, false, cond, not, ◌&&◌, ◌||◌, length, get_or, take, drop, ltb, eqb, Result, Ok, Err}
use Rattle.base_words.specs.Word.{word}
use Rattle.base_masks.specs.Mask.{share}
use Rattle.base_rulings.specs.declared.Cause.{Cause}
use Rattle.base_rulings.specs.declared.Ruling.{Ruling}
use Rattle.base_rulings.specs.Answer.{cause, refuse}
use Rattle.base_rulings.specs.Order.{first_refusal, refusal_of, if_accepted}
use Rattle.read_plant.specs.declared.Trailer.{Trailer}

-- ---- the trailer: "index start, action count (1 to 128), and the last four bytes are hex 50 4C 4E 54"

unfoldable pub is_mark : List ℕ → ℕ → Bool
is_mark s at =
    eqb (get_or s at 0) 0x50
    && (eqb (get_or s (at + 1) 0) 0x4C
    && (eqb (get_or s (at + 2) 0) 0x4E
    && eqb (get_or s (at + 3) 0) 0x54))

unfoldable pub trailer_of : List ℕ → Trailer
trailer_of s = record { index = word s (length s - 12); count = word s (length s - 8) }

-- 2: "The action count is out of range, or index start + 4 × count + 12 isn't the file length."
unfoldable pub bad_layout : Trailer → ℕ → Bool
bad_layout t len = ltb t.count 1 || (ltb 128 t.count || not (eqb (t.index + 4 * t.count + 12) len))

-- ---- a record: "needs-true, needs-false, makes-true, makes-false, shortest, longest (24 bytes); one byte n (0 to 4); three zero
-- bytes; then n allocations"

abbrev pub needs_true : List ℕ → ℕ → ℕ
needs_true s at = word s at

abbrev pub needs_false : List ℕ → ℕ → ℕ
needs_false s at = word s (at + 4)

abbrev pub makes_true : List ℕ → ℕ → ℕ
makes_true s at = word s (at + 8)

abbrev pub makes_false : List ℕ → ℕ → ℕ
makes_false s at = word s (at + 12)

abbrev pub shortest : List ℕ → ℕ → ℕ
shortest s at = word s (at + 16)

abbrev pub longest : List ℕ → ℕ → ℕ
longest s at = word s (at + 20)

-- the byte n
abbrev pub allocation_count : List ℕ → ℕ → ℕ
allocation_count s at = get_or s (at + 24) 0

-- where allocation k of the record starts
abbrev pub allocation_start : ℕ → ℕ → ℕ
allocation_start at k = at + 28 + 12 * k

-- "resource (0 to 15), offset (0 to 1,000,000), length (1 to 1,000,000)", of the allocation that starts at `at`
abbrev pub resource : List ℕ → ℕ → ℕ
resource s at = word s at

abbrev pub offset : List ℕ → ℕ → ℕ
offset s at = word s (at + 4)

abbrev pub use_length : List ℕ → ℕ → ℕ
use_length s at = word s (at + 8)

abbrev pub record_end : List ℕ → ℕ → ℕ
record_end s at = allocation_start at (allocation_count s at)

-- "Records follow one another from byte 0"
unfoldable pub record_start : List ℕ → ℕ → ℕ
record_start s zero = 0
record_start s (suc a) = record_end s (record_start s a)

-- ---- 3: "An index entry isn't where the record before ended (0 for the first), a record passes the index, has n above 4 or a nonzero
-- spare byte, or the last one ends short of the index."

unfoldable pub bad_head : List ℕ → ℕ → Bool
bad_head s at =
    ltb 4 (allocation_count s at)
    || (not (eqb (get_or s (at + 25) 0) 0)
    || (not (eqb (get_or s (at + 26) 0) 0)
    || not (eqb (get_or s (at + 27) 0) 0)))

unfoldable pub bad_record : List ℕ → Trailer → ℕ → ℕ → Bool
bad_record s t a at =
    not (eqb (word s (t.index + 4 * a)) at)
    || (ltb t.index (record_end s at)
    || (bad_head s at
    || (eqb (a + 1) t.count && ltb (record_end s at) t.index)))

-- ---- 4: "An action has a duration, resource, offset or length out of range, or a fact twice in its needs or in its makes"

-- "1 ≤ shortest ≤ longest ≤ 1,000,000" does not hold
unfoldable pub bad_duration : ℕ → ℕ → Bool
bad_duration short long = ltb short 1 || (ltb long short || ltb 1000000 long)

-- "resource (0 to 15), offset (0 to 1,000,000), length (1 to 1,000,000)" does not hold
abbrev pub out_of_range : ℕ → ℕ → ℕ → Bool
out_of_range r o n = ltb 15 r || (ltb 1000000 o || (ltb n 1 || ltb 1000000 n))

unfoldable pub bad_allocation : List ℕ → ℕ → Bool
bad_allocation s at = out_of_range (resource s at) (offset s at) (use_length s at)

-- one of the first n allocations of the record is out of range
unfoldable pub some_bad_allocation : List ℕ → ℕ → ℕ → Bool
some_bad_allocation s at zero = false
some_bad_allocation s at (suc n) = some_bad_allocation s at n || bad_allocation s (allocation_start at n)

unfoldable pub bad_action : List ℕ → ℕ → Bool
bad_action s at =
    share (needs_true s at) (needs_false s at)
    || (share (makes_true s at) (makes_false s at)
    || (bad_duration (shortest s at) (longest s at)
    || some_bad_allocation s at (allocation_count s at)))

-- ---- the reading: "3 and 4 are tested action by action"; "the first record that fails ends the reading"

unfoldable pub record_at : List ℕ → Trailer → ℕ → ℕ → Result ℕ Cause
record_at s t a at =
    cond (bad_record s t a at) (Err (cause 3 a))
    (cond (bad_action s at) (Err (cause 4 a))
    (Ok (record_end s at)))

unfoldable pub record_ruling : List ℕ → ℕ → Ruling
record_ruling s a = refusal_of (record_at s (trailer_of s) a (record_start s a))

unfoldable pub plant_ruling : List ℕ → Ruling
plant_ruling s =
    cond (ltb (length s) 12 || not (is_mark s (length s - 4))) (refuse 1)
    (cond (bad_layout (trailer_of s) (length s)) (refuse 2)
    (first_refusal (record_ruling s) (trailer_of s).count))

-- ---- "In a good file the allocations of an action are handed out as the part of the plant file that holds them; for a bad file or an
-- action it lacks, the part is empty."

unfoldable pub allocations_of : List ℕ → ℕ → List ℕ
allocations_of s a =
    if_accepted (plant_ruling s)
    (cond (ltb a (trailer_of s).count) (take (12 * allocation_count s (record_start s a)) (drop (record_start s a + 28) s)) [])
    []
