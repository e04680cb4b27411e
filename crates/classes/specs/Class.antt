-- "Class k, 0 to 52, has size (4 + k mod 4) × 2^(k div 4 + 1). A held block counts in the least class whose size is at least its payload."
use Rattle.std.specs.Prelude.{cond, ℕ, zero, suc, ◌+◌, ◌*◌, ◌/◌, ◌%◌, ◌^◌, leb}

unfoldable pub size : ℕ → ℕ
size k = (4 + k % 4) * 2 ^ (k / 4 + 1)

-- the least of the classes k, k + 1, .. that holds the payload, and the class past them where none of the `left` classes does
unfoldable pub least_from : (left k payload : ℕ) → ℕ
least_from zero k payload = k
least_from (suc left) k payload = cond (leb payload (size k)) k (least_from left (k + 1) payload)

unfoldable pub class_of : (payload : ℕ) → ℕ
class_of payload = least_from 53 0 payload
