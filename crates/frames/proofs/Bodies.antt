use Rattle.std.proofs.Common.{◌≡◌, ℕ, suc, ◌+◌, ◌-◌, ◌*◌, ◌/◌, ◌%◌, ◌^◌, ◌<◌, ◌≤◌, List, [], ◌∷◌, length, get_or, sym, refl, ap, ◌∙◌, div-one, arith}
use Rattle.frames.specs.Views.{Bytes}
use Rattle.frames.specs.Writing.{word_bytes}
use Rattle.rows.proofs.Repack.{bit_of_field, bit-repacked, field_below, field-drop, field_in_two, field_is, field_same, repacked_back}
use Rattle.rows.specs.Bits.{Small, bit, entries, field, field_of, packed, room}
use Rattle.std.proofs.lemmas.List.{get_or_past}
use native.Mathlib.Nat.{zero-div, zero-mod}

-- 64 bits in eight bytes and back.
one : (u : ℕ) → u < 2 ^ 64 → (k : ℕ) → k < 1 → get_or (u ∷ []) k 0 < 2 ^ 64
one u h k l =
    let z : k ≡ 0 = omega arith in
    rw z h

pub word_there : (u : ℕ) → u < 2 ^ 64 → field (word_bytes u) 0 64 ≡ u
word_there u h = ap (λ ds. get_or ds 0 0) (repacked_back 64 8 1 8 (u ∷ []) (omega arith) refl (one u h) (λ i p q. absurd (omega arith)))

pub word_back : (body : List ℕ) → Bytes body → length body ≡ 8 → word_bytes (field body 0 64) ≡ body
word_back body bytes long = repacked_back 8 64 8 1 body (omega arith) long (λ k h. bytes k) (λ i p q. absurd (omega arith))

-- An ack's body.
pub record AckFields (body : List ℕ) (origin : ℕ) (word : List ℕ) : Type 0 where
  pub origin_there : field body 0 4 ≡ origin
  pub zeros_there : field body 4 4 ≡ 0
  pub word_there : field body 8 64 ≡ field word 0 64

pub ack_there : (o u : ℕ) → o < 16 → AckFields (o * 16 ∷ word_bytes u) o (word_bytes u)
ack_there o u h =
    let body : List ℕ = o * 16 ∷ word_bytes u in
    let b : get_or body 1 0 < 256 = field_below 64 (u ∷ []) 0 8 in
    record {
      origin_there = field_in_two 8 body 0 0 4 0 (omega arith) b (omega arith) ∙ omega arith;
      zeros_there = field_in_two 8 body 0 4 4 4 (omega arith) b (omega arith) ∙ omega arith;
      word_there = field-drop 8 1 body 0 8 64 (omega arith) (omega arith);
    }

pub ack_back : (body : List ℕ) → Bytes body → length body ≡ 9 → field body 4 4 ≡ 0 → field body 0 4 * 16 ∷ word_bytes (field body 8 64) ≡ body
ack_back [] bytes long zeros = absurd (omega arith)
ack_back (x ∷ word) bytes long zeros =
    let body : List ℕ = x ∷ word in
    let a : x < 256 = bytes 0 in
    let b : get_or body 1 0 < 256 = bytes 1 in
    let o = field_in_two 8 body 0 0 4 0 (omega arith) b (omega arith) in
    let z = field_in_two 8 body 0 4 4 4 (omega arith) b (omega arith) in
    let high : field body 0 4 * 16 ≡ x = omega arith in
    let same : field body 8 64 ≡ field word 0 64 = field-drop 8 1 body 0 8 64 (omega arith) (omega arith) in
    let w = word_back word (λ k. bytes (suc k)) (omega arith) in
    rw (high, same, w)

-- Past the last entry every bit is 0.
past_entries : (es : List ℕ) (i : ℕ) → 6 * length es ≤ i → bit 6 es i ≡ 0
past_entries es i h =
    let g : get_or es (i / 6) 0 ≡ 0 = get_or_past es (i / 6) 0 (omega arith) in
    rw (g, zero-div)

-- So the filling bits of what is packed are 0.
pub filling_there : (es : List ℕ) (n w : ℕ) → length es ≡ n → field (packed n es) (6 * n) w ≡ 0
filling_there es n w long =
    field_same 8 6 (packed n es) es (6 * n) w (λ j h. bit-repacked 6 8 (room n) es (6 * n + j) (omega arith) (λ p. past_entries es (6 * n + j) (omega arith)))
    ∙ field_is 6 es (6 * n) w 0 0 (λ j h. past_entries es (6 * n + j) (omega arith) ∙ sym (rw zero-div))
    ∙ zero-mod (2 ^ w)

-- Entries packed and read back, and the other way round.
pub entries_there : (es : List ℕ) (n : ℕ) → length es ≡ n → Small es → entries (packed n es) n ≡ es
entries_there es n long small = repacked_back 6 8 n (room n) es (omega arith) long (λ k h. small k) (λ i p q. omega arith)

pub entries_back : (body : List ℕ) (n : ℕ) → Bytes body → length body ≡ room n → field body (6 * n) (8 * room n - 6 * n) ≡ 0 → packed n (entries body n) ≡ body
entries_back body n bytes long zeros =
    repacked_back 8 6 (room n) n body (omega arith) long (λ k h. bytes k) (λ i p q.
    let w = 8 * room n - 6 * n in
    let b = bit_of_field 8 body (6 * n) w (i - 6 * n) (omega arith) in
    let at : 6 * n + (i - 6 * n) ≡ i = omega arith in
    ap (bit 8 body) (sym at) ∙ sym b ∙ rw (zeros, zero-div))

-- Byte k of 64 bits.
byte_of_word : (u k : ℕ) → k < 8 → field_of 64 (u ∷ []) (8 * k) 8 ≡ u / 2 ^ (56 - 8 * k) % 256
byte_of_word u k h =
    field_is 64 (u ∷ []) (8 * k) 8 u (56 - 8 * k) (λ j l.
    let q : (8 * k + j) / 64 ≡ 0 = omega arith in
    let r : (8 * k + j) % 64 ≡ 8 * k + j = omega arith in
    let z : 64 - 1 - (8 * k + j) ≡ 56 - 8 * k + (8 - 1 - j) = omega arith in
    rw (q, r, z))

pub word_bytes_lem : (u : ℕ)
    → (u / 72057594037927936 % 256) ∷ (u / 281474976710656 % 256) ∷ (u / 1099511627776 % 256) ∷ (u / 4294967296 % 256) ∷ (u / 16777216 % 256) ∷ (u / 65536 % 256) ∷ (u / 256 % 256) ∷ (u % 256) ∷ []
    ≡ word_bytes u
word_bytes_lem u =
    let a = byte_of_word u 0 (omega arith) in
    let b = byte_of_word u 1 (omega arith) in
    let c = byte_of_word u 2 (omega arith) in
    let d = byte_of_word u 3 (omega arith) in
    let e = byte_of_word u 4 (omega arith) in
    let f = byte_of_word u 5 (omega arith) in
    let g = byte_of_word u 6 (omega arith) in
    let h = byte_of_word u 7 (omega arith) in
    let one = div-one u in
    cc
