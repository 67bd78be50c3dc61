-- A search came to a position: the meter says so, and nothing was paid for it.
use mathlib.Core.Path.{◌≡◌, ap}
use Prim.Native.Nat.{ℕ}
use Rattle.search.specs.declared.meter.Meter.{Meter}

pub reached-left : (m : Meter) {m' : Meter} {h : ℕ} → m' ≡ record m { high = h } → m'.left ≡ m.left
reached-left m e = ap (λ (m : Meter). m.left) e

pub reached-high : (m : Meter) {m' : Meter} {h : ℕ} → m' ≡ record m { high = h } → m'.high ≡ h
reached-high m e = ap (λ (m : Meter). m.high) e
