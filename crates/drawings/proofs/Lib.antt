-- Laws of pictures of records.
pub mod PairPictures
