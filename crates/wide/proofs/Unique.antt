-- Each public function's contract leaves one answer.
use Rattle.std.proofs.Common.{sym, refl, ◌∙◌}
use Rattle.laws.specs.Single.{Single}
use Rattle.wide.proofs.sum.Reads as sum
use Rattle.wide.proofs.sum.Kinds as sum-kinds
use Rattle.wide.proofs.difference.Reads as difference
use Rattle.wide.proofs.difference.Kinds as difference-kinds
use Rattle.wide.proofs.at_most.Reads as at_most
use Rattle.wide.proofs.at_most.Kinds as at-most-kinds
use Rattle.wide.proofs.product_low.Reads as product-low
use Rattle.wide.proofs.product_low.Kinds as product-low-kinds
use Rattle.wide.proofs.product.Reads as product
use Rattle.wide.proofs.product.Kinds as product-kinds
use Rattle.wide.proofs.size.Reads as size
use Rattle.wide.proofs.size.Kinds as size-kinds
use Rattle.wide.proofs.with_square.Reads as with-square
use Rattle.wide.proofs.with_square.Kinds as with-square-kinds
use Rattle.wide.proofs.divided.Reads as divided
use Rattle.wide.proofs.divided.Kinds as divided-kinds
use Rattle.wide.proofs.root.Reads as root
use Rattle.wide.proofs.root.Kinds as root-kinds
use Rattle.wide.proofs.square_at_most.Reads as square-at-most
use Rattle.wide.proofs.square_at_most.Kinds as square-at-most-kinds

pub sum_single : Single 0 sum-kinds.ps sum-kinds.r sum.Post
sum_single κs args z z' w w' first second = (first ∙ sym second, refl)

pub difference_single : Single 0 difference-kinds.ps difference-kinds.r difference.Post
difference_single κs args z z' w w' first second = (first ∙ sym second, refl)

pub at_most_single : Single 0 at-most-kinds.ps at-most-kinds.r at_most.Post
at_most_single κs args z z' w w' first second = (first ∙ sym second, refl)

pub product_low_single : Single 0 product-low-kinds.ps product-low-kinds.r product-low.Post
product_low_single κs args z z' w w' first second = (first ∙ sym second, refl)

pub product_single : Single 0 product-kinds.ps product-kinds.r product.Post
product_single κs args z z' w w' first second = (first ∙ sym second, refl)

pub size_single : Single 0 size-kinds.ps size-kinds.r size.Post
size_single κs args z z' w w' first second = (first ∙ sym second, refl)

pub with_square_single : Single 0 with-square-kinds.ps with-square-kinds.r with-square.Post
with_square_single κs args z z' w w' first second = (first ∙ sym second, refl)

pub divided_single : Single 0 divided-kinds.ps divided-kinds.r divided.Post
divided_single κs args z z' w w' first second = (first ∙ sym second, refl)

pub root_single : Single 0 root-kinds.ps root-kinds.r root.Post
root_single κs args z z' w w' first second = (first ∙ sym second, refl)

pub square_at_most_single : Single 0 square-at-most-kinds.ps square-at-most-kinds.r square-at-most.Post
square_at_most_single κs args z z' w w' first second = (first ∙ sym second, refl)
