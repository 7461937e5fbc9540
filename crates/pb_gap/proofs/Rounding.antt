-- Roundings go outward.
use Rattle.std.proofs.Common.{◌≡◌, ◌∙◌, ◌^◌, ℤ, pos, neg_ℤ, ◌+ℤ◌, ◌-ℤ◌, ◌*ℤ◌, ◌≤ℤ◌, List, [], ◌∷◌, refl, sym, ap, arith}
use Rattle.std.proofs.lemmas.Int.{ints}
use Rattle.pb_fixed.proofs.Order.{le_by_eq, le_trans, mul_cancel, mul_mono, mul_nonneg, neg_square, root_mono, square_pos, square_within}
use Rattle.pb_fixed.proofs.Ring.{var, lit, plus, times, less, square, ring}
use Rattle.pb_fixed.proofs.RingLaws.{mul_comm}

-- l times the square of b blocks of p, in units of 2^-72
abbrev pub bound : ℤ → ℤ → ℤ → ℤ
bound l p b = l *ℤ (pos (2 ^ 72) *ℤ ((p *ℤ p) *ℤ b))

-- the residual e of a measurement of weight w and variance v is within r blocks of p roots s
pub record IsInBlocks (l w v e r p s : ℤ) : Type 0 where
  pub weight : w *ℤ v ≡ l
  pub nonneg : pos 0 ≤ℤ w
  pub root : (s *ℤ s) ≤ℤ (v *ℤ pos (2 ^ 40))
  pub above : e ≤ℤ ((r *ℤ p) *ℤ (s *ℤ pos (2 ^ 16)))
  pub below : neg_ℤ e ≤ℤ ((r *ℤ p) *ℤ (s *ℤ pos (2 ^ 16)))

pub square_in_blocks : (l w v e r p s : ℤ) → IsInBlocks l w v e r p s → (w *ℤ (e *ℤ e)) ≤ℤ bound l p (r *ℤ r)
square_in_blocks l w v e r p s h =
    let x = (r *ℤ p) *ℤ (s *ℤ pos (2 ^ 16)) in
    let k = w *ℤ (((p *ℤ p) *ℤ (r *ℤ r)) *ℤ pos (2 ^ 32)) in
    let k_pos : pos 0 ≤ℤ k = mul_nonneg w _ h.nonneg (mul_nonneg _ _ (mul_nonneg _ _ (square_pos p) (square_pos r)) (omega (arith, ints))) in
    let one = mul_mono (e *ℤ e) (x *ℤ x) w (square_within e x h.above h.below) h.nonneg in
    let two = mul_mono (s *ℤ s) (v *ℤ pos (2 ^ 40)) k h.root k_pos in
    let vs : List ℤ = w ∷ v ∷ r ∷ p ∷ s ∷ [] in
    let W = var 0 in
    let V = var 1 in
    let R = var 2 in
    let P = var 3 in
    let S = var 4 in
    let X = times (times R P) (times S (lit (pos (2 ^ 16)))) in
    let K = times W (times (times (square P) (square R)) (lit (pos (2 ^ 32)))) in
    let left : w *ℤ (e *ℤ e) ≡ (e *ℤ e) *ℤ w = mul_comm w (e *ℤ e) in
    let mid : (x *ℤ x) *ℤ w ≡ (s *ℤ s) *ℤ k = ring vs (times (square X) W) (times (square S) K) refl in
    let right : (v *ℤ pos (2 ^ 40)) *ℤ k ≡ bound l p (r *ℤ r) =
    ring vs (times (times V (lit (pos (2 ^ 40)))) K) (times (times W V) (times (lit (pos (2 ^ 72))) (times (square P) (square R)))) refl
    ∙ ap (λ (z : ℤ). z *ℤ (pos (2 ^ 72) *ℤ ((p *ℤ p) *ℤ (r *ℤ r)))) h.weight in
    le_by_eq _ _ _ _ left (sym right) (le_trans _ _ _ one (le_by_eq _ _ _ _ mid refl two))

pub bound_nonneg : (l p b : ℤ) → pos 1 ≤ℤ l → pos 0 ≤ℤ b → pos 0 ≤ℤ bound l p b
bound_nonneg l p b h k = mul_nonneg l _ (omega (arith, ints, h)) (mul_nonneg (pos (2 ^ 72)) _ (omega (arith, ints)) (mul_nonneg _ _ (square_pos p) k))

pub bound_mono : (l p a b : ℤ) → pos 1 ≤ℤ l → a ≤ℤ b → bound l p a ≤ℤ bound l p b
bound_mono l p a b h k =
    let c = l *ℤ (pos (2 ^ 72) *ℤ (p *ℤ p)) in
    let c_pos : pos 0 ≤ℤ c = mul_nonneg l _ (omega (arith, ints, h)) (mul_nonneg (pos (2 ^ 72)) _ (omega (arith, ints)) (square_pos p)) in
    let flat = λ (x : ℤ). ring (l ∷ p ∷ x ∷ []) (times (var 0) (times (lit (pos (2 ^ 72))) (times (square (var 1)) (var 2)))) (times (var 2) (times (var 0) (times (lit (pos (2 ^ 72))) (square (var 1))))) refl in
    le_by_eq (bound l p a) (bound l p b) (a *ℤ c) (b *ℤ c) (flat a) (flat b) (mul_mono a b c k c_pos)

pub bound_add : (l p a b : ℤ) → bound l p (a +ℤ b) ≡ bound l p a +ℤ bound l p b
bound_add l p a b =
    let at = λ (x : _). times (var 0) (times (lit (pos (2 ^ 72))) (times (square (var 1)) x)) in
    ring (l ∷ p ∷ a ∷ b ∷ []) (at (plus (var 2) (var 3))) (plus (at (var 2)) (at (var 3))) refl

-- what the half width of a signed sum relies on: a is the residual of the sum over q, s the sum of the variances, b the weighted
-- squares of the residuals, gg the gap and root the scaled root of s
pub record HasHalfWidth (l q a s b gg root half : ℤ) : Type 0 where
  pub l_pos : pos 1 ≤ℤ l
  pub q_pos : pos 1 ≤ℤ q
  pub s_nonneg : pos 0 ≤ℤ s
  pub g_nonneg : pos 0 ≤ℤ gg
  pub root_nonneg : pos 0 ≤ℤ root
  pub schwarz : (l *ℤ (a *ℤ a)) ≤ℤ (s *ℤ b)
  pub squares : b ≤ℤ ((q *ℤ q) *ℤ (l *ℤ (pos (2 ^ 72) *ℤ (gg *ℤ gg))))
  pub root_above : (s *ℤ pos (2 ^ 40)) ≤ℤ ((root +ℤ pos 1) *ℤ (root +ℤ pos 1))
  pub half_above : ((root +ℤ pos 1) *ℤ gg) ≤ℤ (half *ℤ pos (2 ^ 40))

-- the residual is within the half width
within : (l q a s b gg root half : ℤ) → HasHalfWidth l q a s b gg root half → a ≤ℤ ((half *ℤ q) *ℤ pos (2 ^ 56))
within l q a s b gg root half h =
    let l_pos = h.l_pos in
    let q_pos = h.q_pos in
    let root_pos = h.root_nonneg in
    let vs : List ℤ = l ∷ q ∷ a ∷ s ∷ gg ∷ root ∷ half ∷ b ∷ [] in
    let L = var 0 in
    let Q = var 1 in
    let A = var 2 in
    let S = var 3 in
    let G = var 4 in
    let R = plus (var 5) (lit (pos 1)) in
    let H = var 6 in
    let most = (q *ℤ q) *ℤ (l *ℤ (pos (2 ^ 72) *ℤ (gg *ℤ gg))) in
    let k = (q *ℤ q) *ℤ (pos (2 ^ 72) *ℤ (gg *ℤ gg)) in
    let K = times (square Q) (times (lit (pos (2 ^ 72))) (square G)) in
    let k_pos : pos 0 ≤ℤ k = mul_nonneg _ _ (square_pos q) (mul_nonneg (pos (2 ^ 72)) _ (omega (arith, ints)) (square_pos gg)) in
    let q_nonneg : pos 0 ≤ℤ q = omega (arith, ints, q_pos) in
    let root_nonneg : pos 0 ≤ℤ (root +ℤ pos 1) = omega (arith, ints, root_pos) in
    let one = mul_mono b most s h.squares h.s_nonneg in
    let swap : s *ℤ b ≡ b *ℤ s = mul_comm s b in
    let left : l *ℤ (a *ℤ a) ≡ (a *ℤ a) *ℤ l = mul_comm l (a *ℤ a) in
    let right : (s *ℤ k) *ℤ l ≡ most *ℤ s = ring vs (times (times S K) L) (times (times (square Q) (times L (times (lit (pos (2 ^ 72))) (square G)))) S) refl in
    let two : (a *ℤ a) ≤ℤ (s *ℤ k) = mul_cancel (a *ℤ a) (s *ℤ k) l
    (le_by_eq _ _ _ _ (sym left) right (le_trans _ _ _ h.schwarz (le_by_eq _ _ _ _ swap refl one))) (omega (arith, ints, l_pos)) in
    let three = mul_mono (a *ℤ a) (s *ℤ k) (pos (2 ^ 40)) two (omega (arith, ints)) in
    let four = mul_mono (s *ℤ pos (2 ^ 40)) ((root +ℤ pos 1) *ℤ (root +ℤ pos 1)) k h.root_above k_pos in
    let x = a *ℤ pos (2 ^ 20) in
    let y = ((root +ℤ pos 1) *ℤ gg) *ℤ (q *ℤ pos (2 ^ 36)) in
    let Y = times (times R G) (times Q (lit (pos (2 ^ 36)))) in
    let xx : x *ℤ x ≡ (a *ℤ a) *ℤ pos (2 ^ 40) = ring vs (square (times A (lit (pos (2 ^ 20))))) (times (square A) (lit (pos (2 ^ 40)))) refl in
    let mid : (s *ℤ k) *ℤ pos (2 ^ 40) ≡ (s *ℤ pos (2 ^ 40)) *ℤ k = ring vs (times (times S K) (lit (pos (2 ^ 40)))) (times (times S (lit (pos (2 ^ 40)))) K) refl in
    let yy : y *ℤ y ≡ ((root +ℤ pos 1) *ℤ (root +ℤ pos 1)) *ℤ k = ring vs (square Y) (times (square R) K) refl in
    let five : (x *ℤ x) ≤ℤ (y *ℤ y) = le_by_eq _ _ _ _ xx yy (le_trans _ _ _ three (le_by_eq _ _ _ _ mid refl four)) in
    let scaled_q : pos 0 ≤ℤ (q *ℤ pos (2 ^ 36)) = mul_nonneg q _ q_nonneg (omega (arith, ints)) in
    let y_pos : pos 0 ≤ℤ y = mul_nonneg _ _ (mul_nonneg _ _ root_nonneg h.g_nonneg) scaled_q in
    let six : x ≤ℤ y = root_mono x y y_pos five in
    let seven = mul_mono ((root +ℤ pos 1) *ℤ gg) (half *ℤ pos (2 ^ 40)) (q *ℤ pos (2 ^ 36)) h.half_above scaled_q in
    let out : ((half *ℤ q) *ℤ pos (2 ^ 56)) *ℤ pos (2 ^ 20) ≡ (half *ℤ pos (2 ^ 40)) *ℤ (q *ℤ pos (2 ^ 36)) =
    ring vs (times (times (times H Q) (lit (pos (2 ^ 56)))) (lit (pos (2 ^ 20)))) (times (times H (lit (pos (2 ^ 40)))) (times Q (lit (pos (2 ^ 36))))) refl in
    mul_cancel a ((half *ℤ q) *ℤ pos (2 ^ 56)) (pos (2 ^ 20)) (le_by_eq _ _ _ _ refl out (le_trans _ _ _ six seven)) (omega (arith, ints))

-- the same for the negative of a number
turned : (l q a s b gg root half : ℤ) → HasHalfWidth l q a s b gg root half → HasHalfWidth l q (neg_ℤ a) s b gg root half
turned l q a s b gg root half h =
    let same : l *ℤ (neg_ℤ a *ℤ neg_ℤ a) ≡ l *ℤ (a *ℤ a) = ap (λ (z : ℤ). l *ℤ z) (neg_square a) in
    record {
      l_pos = h.l_pos;
      q_pos = h.q_pos;
      s_nonneg = h.s_nonneg;
      g_nonneg = h.g_nonneg;
      root_nonneg = h.root_nonneg;
      schwarz = le_by_eq _ _ _ _ same refl h.schwarz;
      squares = h.squares;
      root_above = h.root_above;
      half_above = h.half_above;
    }

upper : (x qt k m out : ℤ) → (x -ℤ qt) ≤ℤ k → qt ≤ℤ m → out ≡ m +ℤ k → x ≤ℤ out
upper x qt k m out h i e = omega (arith, ints, h, i, e)

lower : (x qt k m out : ℤ) → neg_ℤ (x -ℤ qt) ≤ℤ k → m ≤ℤ qt → out ≡ m -ℤ k → out ≤ℤ x
lower x qt k m out h i e = omega (arith, ints, h, i, e)

-- a sum y over q is within the half width of its dual flow t, rounded up to high
pub from_above : (l q s b gg root half y t high : ℤ) → HasHalfWidth l q ((y *ℤ pos (2 ^ 56)) -ℤ (q *ℤ t)) s b gg root half → t ≤ℤ (high *ℤ pos (2 ^ 56)) → y ≤ℤ (q *ℤ (high +ℤ half))
from_above l q s b gg root half y t high h high_above =
    let a = (y *ℤ pos (2 ^ 56)) -ℤ (q *ℤ t) in
    let q_pos = h.q_pos in
    let above = within l q a s b gg root half h in
    let hi = mul_mono t (high *ℤ pos (2 ^ 56)) q high_above (omega (arith, ints, q_pos)) in
    let tq = mul_comm t q in
    let top : (q *ℤ (high +ℤ half)) *ℤ pos (2 ^ 56) ≡ ((high *ℤ pos (2 ^ 56)) *ℤ q) +ℤ ((half *ℤ q) *ℤ pos (2 ^ 56)) =
    ring (q ∷ high ∷ half ∷ []) (times (times (var 0) (plus (var 1) (var 2))) (lit (pos (2 ^ 56)))) (plus (times (times (var 1) (lit (pos (2 ^ 56)))) (var 0)) (times (times (var 2) (var 0)) (lit (pos (2 ^ 56))))) refl in
    mul_cancel y (q *ℤ (high +ℤ half)) (pos (2 ^ 56)) (upper (y *ℤ pos (2 ^ 56)) (q *ℤ t) ((half *ℤ q) *ℤ pos (2 ^ 56)) ((high *ℤ pos (2 ^ 56)) *ℤ q) _ above (le_by_eq _ _ _ _ (sym tq) refl hi) top) (omega (arith, ints))

-- rounded down to low
pub from_below : (l q s b gg root half y t low : ℤ) → HasHalfWidth l q ((y *ℤ pos (2 ^ 56)) -ℤ (q *ℤ t)) s b gg root half → (low *ℤ pos (2 ^ 56)) ≤ℤ t → (q *ℤ (low -ℤ half)) ≤ℤ y
from_below l q s b gg root half y t low h low_below =
    let a = (y *ℤ pos (2 ^ 56)) -ℤ (q *ℤ t) in
    let q_pos = h.q_pos in
    let below = within l q (neg_ℤ a) s b gg root half (turned l q a s b gg root half h) in
    let lo = mul_mono (low *ℤ pos (2 ^ 56)) t q low_below (omega (arith, ints, q_pos)) in
    let tq = mul_comm t q in
    let bottom : (q *ℤ (low -ℤ half)) *ℤ pos (2 ^ 56) ≡ ((low *ℤ pos (2 ^ 56)) *ℤ q) -ℤ ((half *ℤ q) *ℤ pos (2 ^ 56)) =
    ring (q ∷ low ∷ half ∷ []) (times (times (var 0) (less (var 1) (var 2))) (lit (pos (2 ^ 56)))) (less (times (times (var 1) (lit (pos (2 ^ 56)))) (var 0)) (times (times (var 2) (var 0)) (lit (pos (2 ^ 56))))) refl in
    mul_cancel (q *ℤ (low -ℤ half)) y (pos (2 ^ 56)) (lower (y *ℤ pos (2 ^ 56)) (q *ℤ t) ((half *ℤ q) *ℤ pos (2 ^ 56)) ((low *ℤ pos (2 ^ 56)) *ℤ q) _ below (le_by_eq _ _ _ _ refl (sym tq) lo) bottom) (omega (arith, ints))
