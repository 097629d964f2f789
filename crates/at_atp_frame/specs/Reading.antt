-- The fields of a packet as they stand in its bytes.
use Rattle.std.specs.Prelude.{ℕ, ◌+◌, ◌*◌, ◌/◌, ◌%◌, ◌==◌, List, drop, slice_index, slice_range}
use Rattle.at_atp_frame.specs.Frames.{Content, Request, Response, read_timer}

abbrev pub tid_in : List ℕ → ℕ
tid_in input = 256 * slice_index input 2 + slice_index input 3

abbrev pub request_of : List ℕ → Content
request_of input =
    let xo = slice_index input 0 / 32 % 2 == 1 in
    Request (slice_index input 1) xo (read_timer xo (slice_index input 0 % 8)) (tid_in input) (slice_range input 4 8)
    (drop 8 input)

abbrev pub response_of : List ℕ → Content
response_of input =
    Response (slice_index input 1) (slice_index input 0 / 16 % 2 == 1) (slice_index input 0 / 8 % 2 == 1) (tid_in input)
    (slice_range input 4 8) (drop 8 input)
